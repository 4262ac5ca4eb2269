use Prim.Native.Nat.{ℕ, ◌+◌, ◌*◌, ◌/◌, ◌%◌, ◌^◌, ◌<◌}
use native.Mathlib.Omega.{arith}
use lib.ListN.{get_or}
use Rattle.supposed.proofs.NoteWords.{NoteFits, note_fits, note_written}
use Rattle.supposed.proofs.note.Goals as goal

-- a word of the class numbers is a number of 32 bits, so the number in it is changed without another's
fits : (w r v : ℕ) → w < 4294967296 → r < 4096 → v < 256 → NoteFits ((1 * 2 ^ (8 * (r / 1024))) % 2 ^ 32) w v
fits w r v a b d = note_fits _ _ a d (r / 1024) (omega arith)

pub nonzero_div-old : goal.nonzero_div-old
nonzero_div-old c = let w : get_or c.args.ws.now (12304 + c.args.r % 1024) 0 < 4294967296 = omega arith in omega (arith, (fits _ _ _ w c.requires.0 c.requires.1).0)

pub overflow_mul-ws : goal.overflow_mul-ws
overflow_mul-ws c = let w : get_or c.args.ws.now (12304 + c.args.r % 1024) 0 < 4294967296 = omega arith in omega (arith, (fits _ _ _ w c.requires.0 c.requires.1).1, w)

pub overflow_sub-ws : goal.overflow_sub-ws
overflow_sub-ws c = let w : get_or c.args.ws.now (12304 + c.args.r % 1024) 0 < 4294967296 = omega arith in omega (arith, (fits _ _ _ w c.requires.0 c.requires.1).1)

pub overflow_mul-ws-2 : goal.overflow_mul-ws-2
overflow_mul-ws-2 c = let w : get_or c.args.ws.now (12304 + c.args.r % 1024) 0 < 4294967296 = omega arith in omega (arith, (fits _ _ _ w c.requires.0 c.requires.1).2)

pub overflow_add-ws : goal.overflow_add-ws
overflow_add-ws c = let w : get_or c.args.ws.now (12304 + c.args.r % 1024) 0 < 4294967296 = omega arith in omega (arith, (fits _ _ _ w c.requires.0 c.requires.1).3)

pub returns : goal.returns
returns c = note_written c.args.ws.now c.args.r c.args.v c.requires.0
