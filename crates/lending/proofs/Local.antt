-- A tally in a local: its machine value, that a local which holds one is one in memory and back, and how it is put together with an ending.
-- Assumes `Logic`, where a memory is spoken of.
use mathlib.Core.Path.{refl}
use mathlib.Core.List.{[], ◌∷◌, List}
use Prim.Native.Nat.{ℕ}
use seplogic.Ra.Ura.{Ura}
use base.Fraction.{full_share}
use lib.Dec.{lit<}
use mir.Val.{Val}
use base.Logic.{ent, sep}
use base.Fml.{fsep, fat}
use types.Logic.{Logic, sem}
use types.Kit.{‵, ◌$◌, ◌∵◌, !, qed, move, use1, fsplit, fjoin, fpick, fpack, done}
use denote.Laws.{Is, shows}
use denote.Memory.{part_at, part_of, cell_at}
use denote.Steps.{owned}
use denote.Struct.Steps.{spelt}
use denote.Struct.Laws as LL
use denote.Enum.Laws as EL
use Rattle.machine.specs.declared.Ending.{Ending}
use Rattle.machine.specs.declared.Tally.{Tally}
use Rattle.machine.specs.Call.{no_counts}
use Rattle.machine.specs.contracts.Tally as T
use Rattle.machine.proofs.Tally.TheLaws as T'
use Rattle.machine.specs.contracts.Ending as E
use Rattle.machine.proofs.Ending.TheLaws as E'
use Rattle.running.specs.declared.Ran.{Ran}
use Rattle.running.specs.contracts.Ran as R
use Rattle.running.proofs.Ran.TheLaws as R'

-- a tally's machine value
abbrev pub mach : Tally → Val
mach h = LL.val T.the_type T'.the_laws h

pub is_none : Is T.the_row no_counts (mach no_counts ∷ [])
is_none = LL.owes T.the_type T'.the_laws no_counts ((refl, lit< tt), ((refl, lit< tt), ((refl, lit< tt), tt)))

-- an ending and a tally, put together
abbrev pub ran : Ending → Tally → Ran
ran e z = record { ending = e; tally = z }

pub is_ran : (e : Ending) (z : Tally) (vs : List Val) → Is E.the_row e vs → Is T.the_row z (mach z ∷ []) → Is R.the_row (ran e z) (LL.vals R.the_type R'.the_laws (ran e z))
is_ran e z vs is was = LL.owes R.the_type R'.the_laws (ran e z) (EL.owes E.the_type E'.the_laws e (EL.owed E.the_type E'.the_laws e vs is), (was, tt))

module _ {M : Type 1} {𝓤 : Ura M} (𝓛 : Logic 𝓤) where
  -- a local that holds a tally is a tally in memory, and back
  pub tally_in : (h : Tally) (b o : ℕ) → Is T.the_row h (mach h ∷ []) → ent 𝓤 (sem 𝓛 (fat full_share T'.mir b o (mach h))) (sem 𝓛 (part_at T.the_row full_share h b o))
  unfolding part_of
  tally_in h b o is =
      qed 𝓛 (‵ (fat full_share T'.mir b o (mach h)) ∷ []) ∵ use1 𝓛 (‵ (cell_at full_share (T.the_row).mir (mach h ∷ []) b o)) (𝓛.laws.at_raw full_share T'.mir b o (mach h)) $
      owned ! T.the_row (Is T.the_row) ((LL.makes T.the_type T'.the_plain) 𝓛) h _ is $ move ! (1 ∷ 0 ∷ []) $ fjoin ! $
      fpack ! (List Val) (λ vs. fsep (cell_at full_share (T.the_row).mir vs b o) ((T.the_row).own_val h vs)) (mach h ∷ []) $ done !

  pub tally_out : (h : Tally) (b o : ℕ) → ent 𝓤 (sem 𝓛 (part_at T.the_row full_share h b o)) (sep 𝓤 (sem 𝓛 (fat full_share T'.mir b o (mach h))) (sem 𝓛 ((T.the_row).own_val h (mach h ∷ []))))
  unfolding part_of
  tally_out h b o =
      qed 𝓛 (‵ (part_at T.the_row full_share h b o) ∷ []) ∵ fpick ! (λ vs. fsplit ! $
      spelt ! T.the_row (Is T.the_row) (shows 𝓛 T.the_row) (LL.vals T.the_type T'.the_laws) (LL.tells T.the_type T'.the_laws) full_share h vs b o $
      use1 𝓛 (‵ (fat full_share T'.mir b o (mach h))) (𝓛.laws.raw_at full_share T'.mir b o (mach h)) $ done !)
