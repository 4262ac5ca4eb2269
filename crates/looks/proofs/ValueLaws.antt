-- What a link leads to.
use mathlib.Core.Path.{◌≡◌, refl, ◌∙◌}
use mathlib.Core.Logic.{◌⊎◌, inl, inr}
use mathlib.Core.List.{List}
use Prim.Native.Nat.{ℕ, ◌+◌, ◌-◌, ◌/◌, ◌%◌, ◌≤◌, ◌<◌}
use native.Mathlib.Omega.{arith}
use Rattle.book.specs.Records.{field}
use Rattle.machine.specs.Term.{Term}
use Rattle.machine.specs.Store.{walk}
use Rattle.words.specs.Words.{term_word, rec_of, base_of, term_of, term_w, store_of}
use Rattle.words.specs.Readable.{Readable, TextRec}
use Rattle.words.specs.Good.{Below, GoodTerm, Slots, ReadThrough}
use Rattle.words.proofs.PackLaws.{rec_pack, base_pack, pack_large, base_small}
use Rattle.words.proofs.ReadLaws.{word_for_var}
use Rattle.words.proofs.TextLaws.{term_app, term_var}
use Rattle.words.proofs.SlotLaws.{word_var, word_large, good_var, good_term}
use Rattle.words.proofs.StackLaws.{word_says}
use Rattle.looks.specs.declared.Value.{Value}
use Rattle.looks.specs.declared.Value.TheVariants.{Open, At}
use Rattle.looks.specs.Runs.{TermAt}
use Rattle.looks.specs.Values.{LinkAt, Opens, Reads, ValueOf, ValueOf.is_open, ValueOf.is_a_term}

-- a term word, and the word of a term
pub word_term : (book : List ℕ) (made w : ℕ) → GoodTerm book made w → TermAt book made (rec_of w) (base_of w)
word_term book made w g = record { term = g.term; base = base_small w; below = g.below }

pub term_word_lem : (book : List ℕ) (made r b : ℕ) → TermAt book made r b → GoodTerm book made (term_word r b) × (term_w book (term_word r b) ≡ term_of book r b)
term_word_lem book made r b T = (
  record { large = pack_large r b; term = rw (rec_pack r b T.base) T.term; below = rw (rec_pack r b T.base, base_pack r b T.base) T.below },
  word_large book (term_word r b) (pack_large r b) ∙ rw (rec_pack r b T.base, base_pack r b T.base) refl,
)

-- which of the two it is
absurd_value {ℓ} : {X : Type ℓ} → ◌≡◌ {A = ℕ} 0 1 → X
absurd_value z = absurd (omega arith)

module _ {book : List ℕ} {made : ℕ} {ws : List ℕ} {t : Term} where
  pub known_open : {o : Value} → ValueOf book made ws t o → (v : ℕ) → o ≡ Open v → Opens book made ws t v
  known_open (is_open {v = i} X) v e = let x : i ≡ v = cc in rw (← x) X
  known_open (is_a_term X) v e = absurd_value (cc)

  pub known_term : {o : Value} → ValueOf book made ws t o → (r b : ℕ) → o ≡ At r b → Reads book made ws t r b
  known_term (is_a_term {r = i} {b = j} X) r b e = let x : i ≡ r = cc in let y : j ≡ b = cc in rw (← x, ← y) X
  known_term (is_open X) r b e = absurd_value (cc)

-- the same record by another name
pub reads_same : {book : List ℕ} {made : ℕ} {ws : List ℕ} {t : Term} {r q b : ℕ} → r ≡ q → Reads book made ws t r b → Reads book made ws t q b
reads_same e h = rw (← e) h

module _ (book : List ℕ) (R : Readable book) (made : ℕ) (ws : List ℕ) (S : Slots book made ws) (k b : ℕ) (L : LinkAt book made k b) (t : ℕ) (te : t ≡ field book k 1) where
  pub text_here : TextRec book t × Below made (term_of book t b)
  text_here = rw te (L.text, L.below)

  pub value_term : (field book t 0 ≡ 1 → ⊥) → ValueOf book made ws (term_of book (field book k 1) b) (At t b)
  unfolding walk
  value_term n = rw (← te) (is_a_term {r = t} {b = b} (record { walked = rw (term_app book R t b here.term) refl; term = here }))
    where
      two : (field book t 0 ≡ 1) ⊎ (field book t 0 ≡ 2) → field book t 0 ≡ 2
      two (inl e) = absurd (n e)
      two (inr e) = e

      here : TermAt book made t b
      here = record { term = (text_here.0.0, two text_here.0.1); base = L.base; below = text_here.1 }

  module _ (ve : field book t 0 ≡ 1) (o : ℕ) (oe : o ≡ field book t 1) where
    var_here : term_w book (b + o + 1) ≡ term_of book t b
    var_here = rw oe (rw (word_for_var book b t ve) at (word_says book made S.room b t L.base text_here.0 text_here.1).0)

    pub var_below : b + o < made
    var_below = rw oe (rw (term_var book t b ve) at text_here.1)

    module _ (w : ℕ) (rt : ReadThrough book made ws (b + o + 1) w) where
      var_walk : walk (store_of book ws made) (term_of book (field book k 1) b) ≡ term_w book w
      var_walk = rw (← te, ← var_here) rt.walked

      pub value_open : w < 4096 → ValueOf book made ws (term_of book (field book k 1) b) (Open w)
      value_open h = is_open {v = w} (record { walked = var_walk ∙ word_var book w h; good = good_var book made w rt.good h; unbound = rt.unbound h })

      pub value_word : 4096 ≤ w → ValueOf book made ws (term_of book (field book k 1) b) (At (w / 4096 - 1) (w % 4096))
      unfolding rec_of base_of
      value_word h = is_a_term {r = rec_of w} {b = base_of w} (record { walked = var_walk ∙ word_large book w h; term = word_term book made w (good_term book made w S.room rt.good h) })
