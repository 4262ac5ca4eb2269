use lib.ListN.{length}
use Rattle.engine.proofs.AcceptedLaws.{run_ready, run_done}
use borrow.Author.Rules.{rules}
use Rattle.words.proofs.FromAccepted.{readable}
use Rattle.engine.proofs.run_accepted.Goals as goal

pub invariant_of-counted_run : goal.invariant_of-counted_run
invariant_of-counted_run c = record { readable = readable _ c.requires.accepted }

pub counted_run-run-requires : goal.counted_run-run-requires
counted_run-run-requires c =
    let p = c.requires in
    run_ready _ _ _ _ c.args.out.now _ p.accepted (p.ws_len.1, p.ws_len.2, p.ws_len.3) c.open_words.ensures c.clear.ensures

pub returns : goal.returns
returns c =
    let x = c.counted_run-run in
    let t = run_done _ _ _ _ (length c.args.ws.now) (length c.args.out.now) x.result _ _ _ _ _ x.ensures (search rules) c.clear-2.ensures (search rules) in record { value = t.0; ws_after = t.1.0; out_after = t.1.1 }
