-- Without a desk every ceiling is that of document 01 and nothing is charged, so what is decided is what document 01 has.
use mathlib.Core.List.{List, [], ◌∷◌}
use mathlib.Core.Path.{◌≡◌, refl, sym, ap, ◌∙◌}
use Prim.Native.Nat.{ℕ, ◌<◌, ◌≤◌}
use native.Mathlib.Omega.{arith}
use borrow.Author.Tests.{lt-ltb, le-ltb}
use lib.Dec.{ltb}
use Rattle.cabinet.specs.declared.Account.TheVariants as Account
use Rattle.format.specs.Refusal.{too_many_visits, ceiling_passed}
use Rattle.format.specs.Syntax.{Ast}
use Rattle.format.specs.Schema.{Schema}
use Rattle.format.specs.File.{Reading, refused, described, reading}
use Rattle.meaning.specs.Check.{Typed, Checked, typed, exhausted, check}
use Rattle.meaning.specs.Diag.{Message}
use Rattle.meaning.specs.Messages.{text_in}
use Rattle.meaning.specs.Outcome.{min_words, max_visits, with_checked, run_all, decide_run, decide_read, decide}
use Rattle.format.proofs.Tests.{cases}
use Rattle.driver.specs.At.{End, all, stopped, stop_at, first, after, run_at, decide_end, decide_read_at, decide_at}
use Rattle.std.specs.Prelude.{None, Option, Some}

-- An end, as document 01 has it.
unfoldable ended : Option (List Typed) → End
ended None = stopped too_many_visits
ended (Some ts) = all ts

first_ended : (t : Typed) (o : Option (List Typed)) → first t (ended o) ≡ ended (with_checked (typed t) o)
unfolding ended with_checked
first_ended t None = refl
first_ended t (Some ts) = refl

decide_ended : (text : Message → List ℕ) (o : Option (List Typed)) → decide_end text (ended o) ≡ decide_run text o
unfolding ended decide_run
decide_ended text None = refl
decide_ended text (Some ts) = refl

pub stop_under : (c : ℕ) → c < 1048576 → ceiling_passed ≡ stop_at c
unfolding stop_at max_visits
stop_under c l = rw (lt-ltb c 1048576 l, stop_at)

pub stop_limit : (c : ℕ) → 1048576 ≤ c → too_many_visits ≡ stop_at c
unfolding stop_at max_visits
stop_limit c l = rw (le-ltb c 1048576 l, stop_at)

open_run : (schema : Schema) (qs : List Ast) → (run_at schema qs Account.Open).end ≡ ended (run_all schema qs)
unfolding run_at run_all ended with_checked max_visits
open_run schema [] = refl
open_run schema (q ∷ qs) = go (check max_visits schema q) (open_run schema qs)
  where
    go : (c : Checked) → (run_at schema qs Account.Open).end ≡ ended (run_all schema qs)
        → (after Account.Open c (λ b. run_at schema qs b)).end ≡ ended (with_checked c (run_all schema qs))
    go exhausted h = ap stopped (sym (stop_limit 1048576 (omega arith)))
    go (typed t) h = ap (first t) h ∙ first_ended t (run_all schema qs)

pub open_decides : (f : List ℕ) (words : ℕ) → (decide_at f words Account.Open).decided ≡ decide f words
unfolding decide_at decide decide_read_at decide_read
open_decides f words = cases (ltb words min_words) (λ q. rw (q, decide_at, decide)) (λ q. rw (q, decide_at, decide) (go (reading f)))
  where
    go : (x : Reading) → (decide_read_at x Account.Open).decided ≡ decide_read x
    go (refused i) = refl
    go (described d) = ap (decide_end (text_in d)) (open_run d.schema d.queries) ∙ decide_ended (text_in d) (run_all d.schema d.queries)
