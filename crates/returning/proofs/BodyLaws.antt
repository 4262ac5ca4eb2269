-- The body's cell, as the code puts it.
use mathlib.Core.Path.{◌≡◌, refl, sym, ◌∙◌}
use mathlib.Core.List.{List}
use Prim.Native.Nat.{ℕ, ◌+◌, ◌*◌}
use mathlib.Core.Bool.{Bool, true, false}
use borrow.Author.Tests.{eq-eqb, ne_eqb, eqb-true}
use lib.Dec.{eqb}
use Rattle.std.specs.Prelude.{Some, None}
use Rattle.std.proofs.lemmas.Option.{none-some, same_Some}
use Rattle.book.specs.Records.{field}
use Rattle.words.specs.Words.{term_word}
use Rattle.words.specs.Body.{body_of}
use Rattle.branch.specs.declared.Back.{Back}
use Rattle.branch.specs.State.{put_cell}
use Rattle.returning.specs.Reentry.{body_words, front_of}

module _ (book : List ℕ) (c : ℕ) (x : Back) (ws : List ℕ) where
  -- with a body
  pub body_words_lem : field book c 5 ≡ 1 → body_words book c x ws ≡ put_cell x.cells (term_word (field book c 6) x.made) x.call x.cell ws
  unfolding body_words
  body_words_lem e = rw (body_words, eq-eqb (field book c 5) 1 e) refl

  pub body_front : field book c 5 ≡ 1 → front_of book c x ≡ record { cell = x.cells; cells = x.cells + 1 }
  unfolding front_of
  body_front e = rw (front_of, eq-eqb (field book c 5) 1 e) refl

  -- without
  pub none_words : (field book c 5 ≡ 1 → ⊥) → body_words book c x ws ≡ ws
  unfolding body_words
  none_words e = rw (body_words, ne_eqb (field book c 5) 1 e) refl

  pub none_front : (field book c 5 ≡ 1 → ⊥) → front_of book c x ≡ record { cell = x.cell; cells = x.cells }
  unfolding front_of
  none_front e = rw (front_of, ne_eqb (field book c 5) 1 e) refl

  -- a body is there by its flag
  body_there : (g : ℕ) → Some g ≡ body_of book c → (field book c 5 ≡ 1) × (g ≡ field book c 6)
  body_there g e = go (eqb (field book c 5) 1) refl e
    where
      go : (t : Bool) → eqb (field book c 5) 1 ≡ t → Some g ≡ elim t [ true ↦ Some (field book c 6) | false ↦ None ] → (field book c 5 ≡ 1) × (g ≡ field book c 6)
      go true z d = (eqb-true _ _ z, same_Some _ _ d)
      go false z d = absurd (none-some g (sym d))

  body_not_there : None ≡ body_of book c → field book c 5 ≡ 1 → ⊥
  body_not_there e z = none-some (field book c 6) (e ∙ rw (body_of, eq-eqb (field book c 5) 1 z) refl)

  -- what the code writes
  pub body_put : (g : ℕ) (ws' : List ℕ) → Some g ≡ body_of book c → ws' ≡ put_cell x.cells (4096 * (g + 1) + x.made) x.call x.cell ws
      → (ws' ≡ body_words book c x ws) × (record { cell = x.cells; cells = x.cells + 1 } ≡ front_of book c x)
  unfolding term_word
  body_put g ws' b e = let z = body_there g b in (e ∙ rw z.1 (sym (body_words_lem z.0)), sym (body_front z.0))

  pub body_none : None ≡ body_of book c → (ws ≡ body_words book c x ws) × (record { cell = x.cell; cells = x.cells } ≡ front_of book c x)
  body_none e = (sym (none_words (body_not_there e)), sym (none_front (body_not_there e)))
