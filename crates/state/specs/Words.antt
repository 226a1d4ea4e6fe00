-- The words of a run besides those of types: how diagnostics are counted, and variables, marks and what left unmarked
-- are written and read (src/lib.rt). There are at most 1,536 diagnostics and 512 of each other; past it nothing is
-- written, and that it never comes to that is shown where the run is.
use Rattle.std.specs.Prelude.{Bool, List, [], ◌∷◌, ◌≡◌, ℕ, zero, suc, ◌+◌, ◌-◌, ◌*◌, ◌/◌, ◌%◌, eqb, ltb, get_or, set, None, Option, Some}
use Rattle.work.specs.Layout.{ENV-LEN, DIAGNOSTIC-COUNT, UNKNOWNS, MARK-COUNT, UNUSED-COUNT, ENV, MARKS, UNUSED}
use Rattle.cells.specs.Words.{pick, fresh_w}
use Rattle.meaning.specs.Check.{Entry, lookup_in, is_in}

-- ---- The number of diagnostics
-- One more in a counter, up to a limit.
abbrev pub bumped_w : ℕ → ℕ → List ℕ → List ℕ
bumped_w counter limit w = pick (ltb (get_or w counter 0) limit) (set w counter (get_or w counter 0 + 1)) w

unfoldable pub counted_w : List ℕ → List ℕ
counted_w w = pick (ltb (get_or w DIAGNOSTIC-COUNT 0) 1536) (set w DIAGNOSTIC-COUNT (get_or w DIAGNOSTIC-COUNT 0 + 1)) w

-- ---- The environment: a variable, the node that made the entry and the unknown in a word, newest last in the slice and first in the list.
abbrev pub entry_w : ℕ → Entry
entry_w e = record { symbol = e / 262144; unknown = e % 512; maker = e / 512 % 512 }

unfoldable pub env_of : List ℕ → ℕ → List Entry
env_of w zero = []
env_of w (suc n) = entry_w (get_or w (ENV + n) 0) ∷ env_of w n

-- the variables of so many entries from a number on
unfoldable pub symbols_of : List ℕ → ℕ → ℕ → List ℕ
symbols_of w from zero = []
symbols_of w from (suc n) = get_or w (ENV + from + n) 0 / 262144 ∷ symbols_of w from n

abbrev pub known_as : Option ℕ → Option Entry
known_as (Some e) = Some (entry_w e)
known_as None = None

-- ---- Numbers in a region, a word each, newest last in the slice and first in the list
unfoldable pub numbers_of : ℕ → List ℕ → ℕ → List ℕ
numbers_of from w zero = []
numbers_of from w (suc n) = get_or w (from + n) 0 ∷ numbers_of from w n

-- One more, in a region with this counter.
unfoldable pub push_w : ℕ → ℕ → List ℕ → ℕ → List ℕ
push_w from count w x = pick (ltb (get_or w count 0) 512) (set (set w (from + get_or w count 0) x) count (get_or w count 0 + 1)) w

-- an entry
unfoldable pub push_env_w : List ℕ → ℕ → ℕ → ℕ → List ℕ
unfolding push_w
push_env_w w node symbol var =
    pick (ltb symbol 16384)
    (pick (ltb node 512)
    (pick (ltb var 512) (push_w ENV ENV-LEN w (symbol * 262144 + (node * 512 + var))) w) w) w

-- the marks, and the nodes whose entries left unmarked
abbrev pub marks_of : List ℕ → ℕ → List ℕ
marks_of w n = numbers_of MARKS w n

abbrev pub unused_of : List ℕ → ℕ → List ℕ
unused_of w n = numbers_of UNUSED w n

abbrev pub push_mark_w : List ℕ → ℕ → List ℕ
push_mark_w w var = push_w MARKS MARK-COUNT w var

abbrev pub push_unused_w : List ℕ → ℕ → List ℕ
push_unused_w w node = push_w UNUSED UNUSED-COUNT w node

abbrev pub is_marked_w : List ℕ → ℕ → Bool
is_marked_w w var = is_in var (marks_of w (get_or w MARK-COUNT 0))

unfoldable pub mark_w : List ℕ → ℕ → ℕ → List ℕ
mark_w w node e = pick (eqb (e / 512 % 512) node) w (pick (is_marked_w w (e % 512)) w (push_mark_w w (e % 512)))

-- ---- What was found is marked; else there is a new one.
abbrev pub introduced_w : Option ℕ → List ℕ → ℕ → ℕ → List ℕ
introduced_w (Some e) w node symbol = mark_w w node e
introduced_w None w node symbol = push_env_w (fresh_w w) node symbol (get_or w UNKNOWNS 0)

abbrev pub introduced_as : Option ℕ → List ℕ → ℕ
introduced_as (Some e) w = e % 512
introduced_as None w = get_or w UNKNOWNS 0

pub record Introduces (w : List ℕ) (node symbol : ℕ) (w' : List ℕ) (r : ℕ) : Type 0 where
  pub known : Option ℕ
  pub found : known_as known ≡ lookup_in (env_of w (get_or w ENV-LEN 0)) symbol
  pub is : r ≡ introduced_as known w
  pub words : w' ≡ introduced_w known w node symbol

-- ---- Entries leave, the oldest first.
unfoldable pub leave_entry_w : List ℕ → ℕ → List ℕ
leave_entry_w w e = pick (is_marked_w w (e % 512)) w (push_unused_w w (e / 512 % 512))

-- so many of them, from this number on
unfoldable pub left_w : List ℕ → ℕ → ℕ → List ℕ
left_w w scope zero = w
left_w w scope (suc k) = leave_entry_w (left_w w scope k) (get_or (left_w w scope k) (ENV + (scope + k)) 0)

unfoldable pub leave_w : List ℕ → ℕ → List ℕ
leave_w w scope = set (left_w w scope (get_or w ENV-LEN 0 - scope)) ENV-LEN scope
