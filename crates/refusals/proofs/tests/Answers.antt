use mathlib.Core.Path.{◌≡◌, sym, ◌∙◌}
use native.Mathlib.Omega.{arith}
use lib.ListN.{length}
use Rattle.refusals.proofs.PassLaws.{room_words}
use Rattle.refusals.proofs.WordLaws.{room_refused, room_taken}
use Rattle.refusals.proofs.tests.Goals as goal

pub returns-then-not-room_fits : goal.returns-then-not-room_fits
returns-then-not-room_fits c = let x = room_refused c.args.ws.now _ _ _ (sym c.room_fits.ensures ∙ c.if-not-room_fits.true) in (c.of.ensures ∙ x.0, x.1)

pub book_tests-requires : goal.book_tests-requires
book_tests-requires c =
    let w : length c.args.ws.now ≡ 16384 = room_words _ c.args.buffer c.args.wanted (sym c.room_fits.ensures ∙ c.if-not-room_fits.false) in
    omega arith

pub returns : goal.returns
returns c =
    let x = room_taken c.args.ws.now c.args.book.now c.args.buffer c.args.wanted (sym c.room_fits.ensures ∙ c.if-not-room_fits.false) in
    (c.book_tests.ensures.0 ∙ x.0, c.book_tests.ensures.1 ∙ x.1)
