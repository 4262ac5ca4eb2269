use Rattle.starting.proofs.StartLaws.{run_ready}
use Rattle.starting.proofs.whole_run.Goals as goal

pub run-requires : goal.run-requires
run-requires c = let t = run_ready _ _ _ _ _ _ _ _ _ _ c.requires c.index_own.ensures c.index_supposed.ensures c.set_up-r.ensures.value c.set_up-r.ensures.ws_after in record { taken = t.0; stands = t.1.0; all_indexed = t.1.1.0; tally_value = t.1.1.1.0; out_value = t.1.1.1.1 }

pub returns : goal.returns
returns c = let x = c.run.ensures in record { ending = x.ending_value.0; tally = x.ending_value.1; buffer = x.out_after }
