-- Runs of links as a list of terms.
use mathlib.Core.Path.{◌≡◌, refl, sym, ◌∙◌, ap}
use mathlib.Core.Logic.{inl, inr}
use mathlib.Core.List.{List, ◌∷◌}
use Prim.Native.Nat.{ℕ, zero, suc, ◌+◌, ◌-◌, ◌*◌, ◌/◌, ◌%◌, ◌≤◌, ◌<◌}
use native.Mathlib.Omega.{arith}
use native.Mathlib.Decide.{dec_lt}
use lib.ListN.{length, get_or, set}
use lib.Seq.{get_or-set_same, get_or-set_other}
use Rattle.book.specs.Records.{field}
use Rattle.book.specs.Decode.{texts_from, text_of, arguments_of}
use Rattle.machine.specs.Term.{Term, instances, fills, spread}
use Rattle.words.specs.Words.{base_of, term_of}
use Rattle.words.specs.Readable.{Readable, HasArguments}
use Rattle.words.specs.Good.{BelowAll}
use Rattle.words.specs.Frame.{Keeps}
use Rattle.words.proofs.ReadLaws.{in_book}
use Rattle.words.proofs.TextLaws.{term_app}
use Rattle.words.proofs.StackLaws.{run_first, spread_length, run_count, keeps_set}
use Rattle.looks.specs.Values.{LinkAt}
use Rattle.looks.specs.declared.ToLook.{ToLook}
use Rattle.looks.specs.declared.LookStep.{LookStep}
use Rattle.looks.specs.declared.LookStep.TheVariants.{On, Over, Full}
use Rattle.looks.specs.Runs.{run_word, first_of, count_of, run_terms, waiting_of, list_of, past_of, GoodRun, GoodWait, Listed, Leaves, Leaves.some_left, Leaves.none_left, TermAt, HasRun, LookedInto, LookedInto.into, LookedInto.into_full}

-- THE WORD OF A RUN
module _ (first m b : ℕ) (mm : m < 16) (bb : b < 4096) where
  pub first_run : first_of (run_word first m b) ≡ first
  unfolding first_of run_word
  first_run = omega arith

  pub count_run : count_of (run_word first m b) ≡ m
  unfolding count_of run_word
  count_run = omega arith

  pub base_run : base_of (run_word first m b) ≡ b
  unfolding base_of run_word
  base_run = omega arith

-- ONE RUN
pub run_next : (book : List ℕ) (b first m : ℕ) (l : List Term) → 0 < m
    → spread (run_terms book b first m) l ≡ term_of book (field book first 1) b ∷ spread (run_terms book b (first + 1) (m - 1)) l
unfolding run_terms texts_from fills spread term_of
run_next book b first m l h =
    let e : m ≡ suc (m - 1) = omega arith in
    let d : suc (m - 1) - 1 ≡ m - 1 = omega arith in
    let g : first + 1 ≡ suc first = omega arith in
    rw (g, e) (rw d refl)

pub run_none : (book : List ℕ) (b first m : ℕ) (l : List Term) → m ≡ 0 → spread (run_terms book b first m) l ≡ l
unfolding run_terms texts_from fills spread
run_none book b first m l e = rw e refl

pub run_length : (book : List ℕ) (b first m : ℕ) (l : List Term) → length (spread (run_terms book b first m) l) ≡ m + length l
unfolding run_terms
run_length book b first m l = spread_length (instances b (texts_from book (text_of book) first m)) l ∙ rw (run_count book b first m) refl

pub run_rest : (book : List ℕ) (made : ℕ) → made ≤ 2048 → (b first m : ℕ) → 0 < m → GoodRun book made b first m → GoodRun book made b (first + 1) (m - 1)
run_rest book made mm b first m h g =
    let e : m ≡ suc (m - 1) = omega arith in
    let d : first + 1 ≡ suc first = omega arith in
    record {
      base = g.base;
      most = omega (arith, g.most);
      links = omega (arith, g.links);
      low = omega (arith, g.low);
      run = rw d (run_first book made mm b g.base first (m - 1) (rw e at g.run)).2;
    }

-- the first link of a run
pub run_here : (book : List ℕ) (made : ℕ) → made ≤ 2048 → (b first m : ℕ) → 0 < m → GoodRun book made b first m → LinkAt book made first b
run_here book made mm b first m h g =
    let e : m ≡ suc (m - 1) = omega arith in
    let x = run_first book made mm b g.base first (m - 1) (rw e at g.run) in
    record { link = omega (arith, g.links); base = g.base; text = x.0; below = x.1 }

-- the arguments of a record, of a term
pub arguments_run : (book : List ℕ) → Readable book → (made r b : ℕ) → HasArguments book r → b < 4096 → BelowAll made (instances b (arguments_of book r))
    → GoodRun book made b (field book r 3) (field book r 2)
unfolding arguments_of
arguments_run book R made r b h bb l = record {
  base = bb;
  most = R.small r h;
  links = omega (arith, R.run r h, h.0);
  low = omega (arith, R.run r h, (in_book book R r h.0).1);
  run = ((λ k a u. (R.target r k h a u).0), l);
}

pub term_run : (book : List ℕ) → Readable book → (made r b : ℕ) → TermAt book made r b → GoodRun book made b (field book r 3) (field book r 2)
term_run book R made r b g = arguments_run book R made r b (g.term.0, inl g.term.1) g.base (rw (term_app book R r b g.term) at g.below)

-- RUNS THAT WAIT
pub waits_same : (book : List ℕ) (d : ℕ) (ws ws' : List ℕ) → ((k : ℕ) → k < d → get_or ws' (16128 + k) 0 ≡ get_or ws (16128 + k) 0) → waiting_of book ws' d ≡ waiting_of book ws d
unfolding waiting_of
waits_same book zero ws ws' h = refl
waits_same book (suc d) ws ws' h = rw (h d (omega arith), waits_same book d ws ws' (λ k l. h k (omega arith))) refl

pub waits_most : (book : List ℕ) (made : ℕ) (ws : List ℕ) (d : ℕ) → ((k : ℕ) → k < d → GoodWait book made (get_or ws (16128 + k) 0)) → d ≤ length (waiting_of book ws d)
unfolding waiting_of
waits_most book made ws zero g = omega arith
waits_most book made ws (suc d) g =
    let i = waits_most book made ws d (λ k l. g k (omega arith)) in
    let x = get_or ws (16128 + d) 0 in
    omega (arith, run_length book (base_of x) (first_of x) (count_of x) (waiting_of book ws d), (g d (omega arith)).some)

pub waits_last : (book ws : List ℕ) (d : ℕ) → 0 < d
    → waiting_of book ws d ≡ spread (run_terms book (base_of (get_or ws (16128 + (d - 1)) 0)) (first_of (get_or ws (16128 + (d - 1)) 0)) (count_of (get_or ws (16128 + (d - 1)) 0))) (waiting_of book ws (d - 1))
unfolding waiting_of
waits_last book ws d h = let e : d ≡ suc (d - 1) = omega arith in rw e (let q : suc (d - 1) - 1 ≡ d - 1 = omega arith in rw q refl)

pub waits_push : (book ws : List ℕ) (d x : ℕ) → 16128 + d < length ws
    → waiting_of book (set ws (16128 + d) x) (d + 1) ≡ spread (run_terms book (base_of x) (first_of x) (count_of x)) (waiting_of book ws d)
unfolding waiting_of
waits_push book ws d x l =
    let e : d + 1 ≡ suc d = omega arith in
    rw e (rw (get_or-set_same ws (16128 + d) x 0 l, waits_same book d ws (set ws (16128 + d) x) (λ k i. get_or-set_other ws (16128 + d) (16128 + k) x 0 (λ q. omega arith))) refl)

pub waits_good : (book : List ℕ) (made : ℕ) (ws : List ℕ) (d x : ℕ) → 16128 + d < length ws → ((k : ℕ) → k < d → GoodWait book made (get_or ws (16128 + k) 0)) → GoodWait book made x
    → (k : ℕ) → k < d + 1 → GoodWait book made (get_or (set ws (16128 + d) x) (16128 + k) 0)
waits_good book made ws d x l g w k i = go (dec_lt k d)
  where
    go : Dec (k < d) → GoodWait book made (get_or (set ws (16128 + d) x) (16128 + k) 0)
    go (yes a) = rw (get_or-set_other ws (16128 + d) (16128 + k) x 0 (λ q. omega arith)) (g k a)
    go (no a) = let e : k ≡ d = omega arith in rw (e, get_or-set_same ws (16128 + d) x 0 l) w

-- THE LIST
pub list_length : (book ws : List ℕ) (s : ToLook) → length (list_of book ws s) ≡ s.count + length (waiting_of book ws s.depth)
unfolding list_of
list_length book ws s = run_length book s.base s.first s.count (waiting_of book ws s.depth)

pub past_length : (book ws : List ℕ) (s : ToLook) → length (past_of book ws s) ≡ s.count - 1 + length (waiting_of book ws s.depth)
unfolding past_of
past_length book ws s = run_length book s.base (s.first + 1) (s.count - 1) (waiting_of book ws s.depth)

pub list_first : (book ws : List ℕ) (s : ToLook) → 0 < s.count → list_of book ws s ≡ term_of book (field book s.first 1) s.base ∷ past_of book ws s
unfolding list_of past_of
list_first book ws s h = run_next book s.base s.first s.count (waiting_of book ws s.depth) h

-- where a run begins: no links
pub run_begin : (book : List ℕ) (made b first m : ℕ) → GoodRun book made b first m → GoodRun book made b first 0
unfolding texts_from fills
run_begin book made b first m g = record { base = g.base; most = omega arith; links = omega (arith, g.links); low = omega (arith, g.low); run = ((λ k l u. absurd (omega arith)), tt) }

module _ (book : List ℕ) (made : ℕ) (mm : made ≤ 2048) (ws : List ℕ) (s : ToLook) (L : Listed book made ws s) where
  pub deep : s.depth < 256
  deep = omega (arith, waits_most book made ws s.depth L.waits, L.total, L.most, L.some)

  pub past_hand : 1 < s.count → Leaves book made ws (past_of book ws s) (On (record { first = s.first + 1; count = s.count - 1; base = s.base; depth = s.depth; waiting = s.waiting }))
  unfolding list_of past_of
  past_hand g = some_left {x = record { first = s.first + 1; count = s.count - 1; base = s.base; depth = s.depth; waiting = s.waiting }}
      (record {
        hand = run_rest book made mm s.base s.first s.count L.some L.hand;
        waits = L.waits;
        total = L.total;
        most = omega (arith, L.most);
        some = omega arith;
      })
      refl

  past_waits : s.count ≤ 1 → past_of book ws s ≡ waiting_of book ws s.depth
  unfolding past_of
  past_waits g = run_none book s.base (s.first + 1) (s.count - 1) (waiting_of book ws s.depth) (omega arith)

  pub past_none : s.count ≤ 1 → s.depth ≡ 0 → Leaves book made ws (past_of book ws s) Over
  unfolding waiting_of
  past_none g e = none_left (past_waits g ∙ rw e refl)

  module _ (d : 0 < s.depth) (x : ℕ) (xe : x ≡ get_or ws (16128 + (s.depth - 1)) 0) where
    pop_wait : GoodWait book made x
    pop_wait = rw xe (L.waits (s.depth - 1) (omega arith))

    pop_list : waiting_of book ws s.depth ≡ spread (run_terms book (base_of x) (first_of x) (count_of x)) (waiting_of book ws (s.depth - 1))
    pop_list = waits_last book ws s.depth d ∙ rw (← xe) refl

    pop_total : s.waiting ≡ count_of x + length (waiting_of book ws (s.depth - 1))
    pop_total = L.total ∙ ap length pop_list ∙ run_length book (base_of x) (first_of x) (count_of x) (waiting_of book ws (s.depth - 1))

    pub pop_most : x / 4096 % 16 ≤ s.waiting
    unfolding count_of
    pop_most = omega (arith, pop_total)

    popped : s.count ≤ 1 → Leaves book made ws (past_of book ws s) (On (record { first = first_of x; count = count_of x; base = base_of x; depth = s.depth - 1; waiting = s.waiting - count_of x }))
    unfolding list_of
    popped g = some_left {x = record { first = first_of x; count = count_of x; base = base_of x; depth = s.depth - 1; waiting = s.waiting - count_of x }}
        (record {
          hand = pop_wait.good;
          waits = λ k l. L.waits k (omega arith);
          total = omega (arith, pop_total);
          most = omega (arith, pop_total, L.most);
          some = pop_wait.some;
        })
        (sym (past_waits g ∙ pop_list))

    pub past_pop : s.count ≤ 1
        → Leaves book made ws (past_of book ws s) (On (record { first = x / 65536; count = x / 4096 % 16; base = x % 4096; depth = s.depth - 1; waiting = s.waiting - x / 4096 % 16 }))
    unfolding first_of count_of base_of
    past_pop g = popped g

  -- THE ARGUMENTS OF THE FIRST TERM IN ITS PLACE
  module _ (r b m : ℕ) (me : m ≡ field book r 2) where
    pub into_none : m ≡ 0 → (o : LookStep) → Leaves book made ws (past_of book ws s) o → LookedInto book made ws ws s r b o
    into_none e o p = into {o = o} (rw (run_none book b (field book r 3) (field book r 2) (past_of book ws s) (sym me ∙ e)) p)

    pub into_over : 256 < s.waiting + (s.count - 1) + m → LookedInto book made ws ws s r b Full
    into_over l = into_full (omega (arith, past_length book ws s, L.total))

  module _ (R : Readable book) (r b : ℕ) (T : TermAt book made r b) (f m : ℕ) (H : HasRun book r f m) where
    arguments : GoodRun book made b f m
    arguments = rw (H.start, H.many) (term_run book R made r b T)

    pub into_hand : s.count ≡ 1 → s.waiting + m ≤ 256 → LookedInto book made ws ws s r b (On (record { first = f; count = m; base = b; depth = s.depth; waiting = s.waiting }))
    unfolding list_of
    into_hand e l = into
        (some_left {x = record { first = f; count = m; base = b; depth = s.depth; waiting = s.waiting }}
        (record { hand = arguments; waits = L.waits; total = L.total; most = omega arith; some = H.some })
        (rw (H.start, H.many, past_waits (omega arith)) refl))

    module _ (l : s.waiting + (s.count - 1) + m ≤ 256) where
      pub into_push : length ws ≡ 16384 → (s.count ≡ 1 → ⊥) → Keeps 0 16128 ws (set ws (16128 + s.depth) (65536 * (s.first + 1) + (4096 * (s.count - 1) + s.base)))
          × LookedInto book made ws (set ws (16128 + s.depth) (65536 * (s.first + 1) + (4096 * (s.count - 1) + s.base))) s r b
          (On (record { first = f; count = m; base = b; depth = s.depth + 1; waiting = s.waiting + (s.count - 1) }))
      unfolding run_word list_of past_of
      into_push size e =
          let x = run_word (s.first + 1) (s.count - 1) s.base in
          let c : s.count - 1 < 16 = omega (arith, L.hand.most) in
          let d : s.depth ≤ s.waiting = omega (arith, L.total, waits_most book made ws s.depth L.waits) in
          let w : waiting_of book (set ws (16128 + s.depth) x) (s.depth + 1) ≡ spread (run_terms book s.base (s.first + 1) (s.count - 1)) (waiting_of book ws s.depth) =
          waits_push book ws s.depth x (omega arith)
          ∙ rw (first_run (s.first + 1) (s.count - 1) s.base c L.hand.base, count_run (s.first + 1) (s.count - 1) s.base c L.hand.base, base_run (s.first + 1) (s.count - 1) s.base c L.hand.base) refl in
          let g : GoodWait book made x = record {
            some = rw (count_run (s.first + 1) (s.count - 1) s.base c L.hand.base) (omega (arith, L.some));
            good = rw (first_run (s.first + 1) (s.count - 1) s.base c L.hand.base, count_run (s.first + 1) (s.count - 1) s.base c L.hand.base, base_run (s.first + 1) (s.count - 1) s.base c L.hand.base)
                (run_rest book made mm s.base s.first s.count L.some L.hand);
          } in (
            keeps_set 0 16128 ws (16128 + s.depth) x (inr (omega arith)),
            into
                (some_left {x = record { first = f; count = m; base = b; depth = s.depth + 1; waiting = s.waiting + (s.count - 1) }}
                (record {
                  hand = arguments;
                  waits = waits_good book made ws s.depth x (omega arith) L.waits g;
                  total = omega (arith, ap length w, run_length book s.base (s.first + 1) (s.count - 1) (waiting_of book ws s.depth), L.total);
                  most = omega arith;
                  some = H.some;
                })
                (rw (w, H.start, H.many) refl)),
          )
