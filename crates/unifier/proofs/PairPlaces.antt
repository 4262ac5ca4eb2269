-- The first pair of the list taken: the list without it, and its argument pairs in its place.
use mathlib.Core.Path.{◌≡◌, refl, sym, ◌∙◌, ap}
use mathlib.Core.List.{List, []}
use Prim.Native.Nat.{ℕ, ◌+◌, ◌-◌, ◌*◌, ◌/◌, ◌%◌, ◌≤◌, ◌<◌}
use native.Mathlib.Omega.{arith}
use lib.ListN.{length, get_or, set}
use Rattle.book.specs.Records.{field}
use Rattle.words.specs.Words.{base_of}
use Rattle.words.specs.Readable.{Readable}
use Rattle.words.proofs.StackLaws.{keeps_refl}
use Rattle.unifier.specs.declared.ToPair.{ToPair}
use Rattle.unifier.specs.declared.PairStep.TheVariants.{Into, Past, TooMany}
use Rattle.looks.specs.Runs.{run_word, first_of, count_of, GoodRun, TermAt}
use Rattle.unifier.specs.PairRuns.{pair_words, waiting_pairs, pair_list_of, past_pairs, GoodTwo, Paired, PairPast, PairedInto, PairedInto.paired, PairedInto.alike, PairedInto.overfull}
use Rattle.looks.proofs.RunLaws.{first_run, count_run, base_run, run_rest, run_begin, term_run}
use Rattle.unifier.proofs.PairRunLaws.{both_none, words_length, twos_most, twos_last, two_keeps, twos_push, twos_good, past_length, pairs_none}

-- symbol and argument count of two records, each two as one number
module _ (book : List ℕ) (r q x y : ℕ) (X : (x ≡ field book r 1 + 65536 * field book r 2) × (field book r 1 < 65536)) (Y : (y ≡ field book q 1 + 65536 * field book q 2) × (field book q 1 < 65536)) where
  pub both_same : x ≡ y → (field book r 1 ≡ field book q 1) × (field book r 2 ≡ field book q 2)
  both_same e = (omega (arith, X.0, X.1, Y.0, Y.1), omega (arith, X.0, X.1, Y.0, Y.1))

  pub both_apart : (x ≡ y → ⊥) → field book r 1 ≡ field book q 1 → field book r 2 ≡ field book q 2 → ⊥
  both_apart n e d = n (omega (arith, X.0, Y.0))

  pub both_count : x / 65536 ≡ field book r 2
  both_count = omega (arith, X.0, X.1)

module _ (book : List ℕ) (made : ℕ) (mm : made ≤ 2048) (ws : List ℕ) (s : ToPair) (L : Paired book made ws s) (h : 0 < s.count) where
  pub deep : s.depth < 256
  deep = omega (arith, twos_most book made ws s.depth L.waits, L.total, L.most)

  pub past_hand : 1 < s.count
      → PairPast book made ws s (record { first = s.first + 1; base = s.base; other = s.other + 1; beside = s.beside; count = s.count - 1; depth = s.depth; waiting = s.waiting })
  unfolding pair_list_of past_pairs
  past_hand g = record {
    listed = record {
      left = run_rest book made mm s.base s.first s.count h L.left;
      right = run_rest book made mm s.beside s.other s.count h L.right;
      waits = L.waits;
      total = L.total;
      most = omega (arith, L.most);
      ends = λ e. absurd (omega arith);
    };
    same = refl;
  }

  past_waits : s.count ≤ 1 → past_pairs book ws s ≡ waiting_pairs book ws s.depth
  unfolding past_pairs
  past_waits g = both_none book s.base (s.first + 1) s.beside (s.other + 1) (s.count - 1) (waiting_pairs book ws s.depth) (omega arith)

  pub past_none : s.count ≤ 1 → s.depth ≡ 0
      → PairPast book made ws s (record { first = s.first; base = s.base; other = s.other; beside = s.beside; count = 0; depth = s.depth; waiting = s.waiting })
  unfolding waiting_pairs
  past_none g e =
      let q : waiting_pairs book ws s.depth ≡ [] = rw e refl in
      record {
        listed = record {
          left = run_begin book made s.base s.first s.count L.left;
          right = run_begin book made s.beside s.other s.count L.right;
          waits = L.waits;
          total = L.total;
          most = omega (arith, L.most);
          ends = λ z. e;
        };
        same = pairs_none book ws (record { first = s.first; base = s.base; other = s.other; beside = s.beside; count = 0; depth = s.depth; waiting = s.waiting }) refl e ∙ sym (past_waits g ∙ q);
      }

  module _ (d : 0 < s.depth) (x y : ℕ) (xe : x ≡ get_or ws (15616 + 2 * (s.depth - 1)) 0) (ye : y ≡ get_or ws (15616 + 2 * (s.depth - 1) + 1) 0) where
    pop_two : GoodTwo book made x y
    pop_two = rw (xe, ye) (L.waits (s.depth - 1) (omega arith))

    pop_list : waiting_pairs book ws s.depth ≡ pair_words book x y (waiting_pairs book ws (s.depth - 1))
    pop_list = twos_last book ws s.depth d ∙ rw (← xe, ← ye) refl

    pop_total : s.waiting ≡ count_of x + length (waiting_pairs book ws (s.depth - 1))
    pop_total = L.total ∙ ap length pop_list ∙ words_length book x y (waiting_pairs book ws (s.depth - 1))

    pub pop_most : x / 4096 % 16 ≤ s.waiting
    unfolding count_of
    pop_most = omega (arith, pop_total)

    popped : s.count ≤ 1
        → PairPast book made ws s (record { first = first_of x; base = base_of x; other = first_of y; beside = base_of y; count = count_of x; depth = s.depth - 1; waiting = s.waiting - count_of x })
    unfolding pair_list_of pair_words
    popped g = record {
      listed = record {
        left = pop_two.left;
        right = pop_two.right;
        waits = λ k l. L.waits k (omega arith);
        total = omega (arith, pop_total);
        most = omega (arith, pop_total, L.most);
        ends = λ e. absurd (omega (arith, pop_two.some));
      };
      same = sym (past_waits g ∙ pop_list);
    }

    pub past_pop : s.count ≤ 1
        → PairPast book made ws s (record { first = x / 65536; base = x % 4096; other = y / 65536; beside = y % 4096; count = x / 4096 % 16; depth = s.depth - 1; waiting = s.waiting - x / 4096 % 16 })
    unfolding first_of count_of base_of
    past_pop g = popped g

  -- THE ARGUMENT PAIRS OF THE FIRST PAIR IN ITS PLACE
  module _ (R : Readable book) (r b q c trail : ℕ) (T : TermAt book made r b) (U : TermAt book made q c) (se : field book r 1 ≡ field book q 1) (ce : field book r 2 ≡ field book q 2)
      (m : ℕ) (me : m ≡ field book r 2) where
    pub into_none : m ≡ 0 → PairedInto book made ws ws s r b q c trail (Past trail)
    into_none e = alike refl se ce (sym me ∙ e)

    pub into_over : 256 < s.waiting + (s.count - 1) + m → PairedInto book made ws ws s r b q c trail TooMany
    into_over l = overfull refl se ce (omega (arith, past_length book ws s, L.total))

    module _ (some : m ≡ 0 → ⊥) (l : s.waiting + (s.count - 1) + m ≤ 256) (f g : ℕ) (fe : f ≡ field book r 3) (ge : g ≡ field book q 3) where
      left_run_lem : GoodRun book made b f m
      left_run_lem = rw (fe, me) (term_run book R made r b T)

      right_run_lem : GoodRun book made c g m
      right_run_lem = rw (ge, me, ce) (term_run book R made q c U)

      pub into_hand : s.count ≡ 1
          → PairedInto book made ws ws s r b q c trail (Into (record { first = f; base = b; other = g; beside = c; count = m; depth = s.depth; waiting = s.waiting }))
      unfolding pair_list_of
      into_hand e =
          paired {x = record { first = f; base = b; other = g; beside = c; count = m; depth = s.depth; waiting = s.waiting }} se ce (keeps_refl 0 15616 ws)
          (record {
            left = left_run_lem;
            right = right_run_lem;
            waits = L.waits;
            total = L.total;
            most = omega arith;
            ends = λ q. absurd (some q);
          })
          (rw (fe, ge, me, past_waits (omega arith)) refl)

      -- the rest of the runs in hand, as words
      module _ (x y : ℕ) (xe : x ≡ run_word (s.first + 1) (s.count - 1) s.base) (ye : y ≡ run_word (s.other + 1) (s.count - 1) s.beside) where
        few : s.count - 1 < 16
        few = omega (arith, L.left.most)

        rest_list : pair_words book x y (waiting_pairs book ws s.depth) ≡ past_pairs book ws s
        unfolding pair_words past_pairs
        rest_list = rw (
          xe,
          ye,
          first_run (s.first + 1) (s.count - 1) s.base few L.left.base,
          count_run (s.first + 1) (s.count - 1) s.base few L.left.base,
          base_run (s.first + 1) (s.count - 1) s.base few L.left.base,
          first_run (s.other + 1) (s.count - 1) s.beside few L.right.base,
          base_run (s.other + 1) (s.count - 1) s.beside few L.right.base,
        ) refl

        rest_two : (s.count ≡ 1 → ⊥) → GoodTwo book made x y
        rest_two e = rw (xe, ye) (record {
          some = rw (count_run (s.first + 1) (s.count - 1) s.base few L.left.base) (omega arith);
          left = rw (
            first_run (s.first + 1) (s.count - 1) s.base few L.left.base,
            count_run (s.first + 1) (s.count - 1) s.base few L.left.base,
            base_run (s.first + 1) (s.count - 1) s.base few L.left.base,
          ) (run_rest book made mm s.base s.first s.count h L.left);
          right = rw (
            first_run (s.other + 1) (s.count - 1) s.beside few L.right.base,
            count_run (s.first + 1) (s.count - 1) s.base few L.left.base,
            base_run (s.other + 1) (s.count - 1) s.beside few L.right.base,
          ) (run_rest book made mm s.beside s.other s.count h L.right);
        })

        pushed : length ws ≡ 16384 → (s.count ≡ 1 → ⊥)
            → PairedInto book made ws (set (set ws (15616 + 2 * s.depth) x) (15616 + 2 * s.depth + 1) y) s r b q c trail
            (Into (record { first = f; base = b; other = g; beside = c; count = m; depth = s.depth + 1; waiting = s.waiting + (s.count - 1) }))
        unfolding pair_list_of
        pushed size e =
            let z : 15616 + 2 * s.depth + 1 < length ws = omega (arith, deep) in
            let w = twos_push ws s.depth x y z book ∙ rest_list in
            let K = two_keeps ws s.depth x y z in
            paired {x = record { first = f; base = b; other = g; beside = c; count = m; depth = s.depth + 1; waiting = s.waiting + (s.count - 1) }} se ce
            (record { size = K.size; same = λ k i j. K.same k i (omega arith) })
            (record {
              left = left_run_lem;
              right = right_run_lem;
              waits = twos_good ws s.depth x y z book made L.waits (rest_two e);
              total = omega (arith, ap length w, past_length book ws s, L.total);
              most = omega arith;
              ends = λ q. absurd (some q);
            })
            (rw (fe, ge, me, w) refl)

      pub into_push : length ws ≡ 16384 → (s.count ≡ 1 → ⊥)
          → PairedInto book made ws
          (set (set ws (15616 + 2 * s.depth) (65536 * (s.first + 1) + (4096 * (s.count - 1) + s.base))) (15616 + 2 * s.depth + 1) (65536 * (s.other + 1) + (4096 * (s.count - 1) + s.beside)))
          s r b q c trail (Into (record { first = f; base = b; other = g; beside = c; count = m; depth = s.depth + 1; waiting = s.waiting + (s.count - 1) }))
      unfolding run_word
      into_push size e = pushed _ _ refl refl size e
