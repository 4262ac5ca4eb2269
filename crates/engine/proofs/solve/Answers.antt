use Rattle.engine.proofs.VerdictLaws.{refused, taken_ready, taken}
use mathlib.Core.Path.{◌≡◌}
use Rattle.machine.specs.Call.{no_counts}
use borrow.Author.Rules.{rules}
use Rattle.engine.proofs.solve.Goals as goal

pub run_accepted-requires : goal.run_accepted-requires
run_accepted-requires c =
    let v = c.tests.ensures in let t = taken_ready _ c.args.budget _ c.args.workspace.now c.args.out.now _ _ c.tests.new.ws v.0 c.in-Ok.is (search rules) in record { accepted = t.0; ws_len = t.1 }

pub returns-in-Err : goal.returns-in-Err
returns-in-Err c =
    let v = c.tests.ensures in let t = refused _ c.args.budget _ c.args.workspace.now c.args.out.now _ _ _ v.0 c.in-Err.is v.1 in let d : c.default.result ≡ no_counts = search rules in record { value = rw d t.0; workspace_after = t.1.0; out_after = t.1.1 }

pub returns-in-Ok : goal.returns-in-Ok
returns-in-Ok c =
    let t = c.tests in
    let a = c.run_accepted.ensures in let t = taken _ c.args.budget _ c.args.workspace.now c.args.out.now _ _ t.new.ws _ _ _ t.ensures.0 c.in-Ok.is (search rules) a.value a.ws_after a.out_after in record { value = t.0; workspace_after = t.1.0; out_after = t.1.1 }
