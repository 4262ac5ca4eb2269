-- What a link leads to, read through: a variable that stands for nothing, or a term.
use Rattle.std.specs.Prelude.{◌≡◌, List, ℕ, ◌-◌, ◌<◌, get_or}
use Rattle.book.specs.Records.{field, records}
use Rattle.machine.specs.Term.{Term, var}
use Rattle.machine.specs.Store.{walk}
use Rattle.words.specs.Words.{term_of, store_of}
use Rattle.words.specs.Readable.{TextRec}
use Rattle.words.specs.Good.{Below, GoodVar}
use Rattle.looks.specs.declared.Value.{Value}
use Rattle.looks.specs.declared.Value.TheVariants.{Open, At}
use Rattle.looks.specs.Runs.{TermAt}

-- the target of link k with its variables from number b on is a term of the branch, open or not
pub record LinkAt (book : List ℕ) (made k b : ℕ) : Type 0 where
  pub link : k < records book
  pub base : b < 4096
  pub text : TextRec book (field book k 1)
  pub below : Below made (term_of book (field book k 1) b)

-- t is read as the open variable v - 1; as the term of record r at base b
pub record Opens (book : List ℕ) (made : ℕ) (ws : List ℕ) (t : Term) (v : ℕ) : Type 0 where
  pub walked : walk (store_of book ws made) t ≡ var (v - 1)
  pub good : GoodVar made v
  pub unbound : get_or ws (v - 1) 0 ≡ 0

pub record Reads (book : List ℕ) (made : ℕ) (ws : List ℕ) (t : Term) (r b : ℕ) : Type 0 where
  pub walked : walk (store_of book ws made) t ≡ term_of book r b
  pub term : TermAt book made r b

pub data ValueOf (book : List ℕ) (made : ℕ) (ws : List ℕ) (t : Term) : Value → Type 0 where
  is_open : {v : ℕ} → Opens book made ws t v → ValueOf book made ws t (Open v)
  is_a_term : {r b : ℕ} → Reads book made ws t r b → ValueOf book made ws t (At r b)
