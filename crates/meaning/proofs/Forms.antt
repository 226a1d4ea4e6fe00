-- The runs of a form's queries: each goes to its end, or one of them runs out of visits.
use mathlib.Core.List.{List, [], ◌∷◌}
use mathlib.Core.Logic.{inl, inr}
use mathlib.Core.Path.{◌≡◌, refl, ap, ◌∙◌}
use Rattle.format.specs.Syntax.{Ast}
use Rattle.format.specs.Schema.{Schema}
use Rattle.format.specs.All.{Any, Each}
use Rattle.meaning.specs.Check.{Typed, Checked, typed, exhausted, check}
use Rattle.meaning.specs.Outcome.{with_checked, run_all, max_visits}
use Rattle.std.specs.Prelude.{None, Option, Some}

abbrev pub Ran : Schema → Ast → Typed → Type 0
Ran schema a t = check max_visits schema a ≡ typed t

abbrev pub RanOut : Schema → Ast → Type 0
RanOut schema a = check max_visits schema a ≡ exhausted

pub data Runs (schema : Schema) (qs : List Ast) : Option (List Typed) → Type 0 where
  all_ran : (ts : List Typed) → Each (Ran schema) qs ts → Runs schema qs (Some ts)
  one_out : Any (RanOut schema) qs → Runs schema qs None

pub runs : (schema : Schema) (qs : List Ast) → Runs schema qs (run_all schema qs)
unfolding run_all with_checked
runs schema [] = all_ran [] tt
runs schema (a ∷ qs) = go (check max_visits schema a) refl (runs schema qs)
  where
    go : (c : Checked) → check max_visits schema a ≡ c → {o : Option (List Typed)} → Runs schema qs o → Runs schema (a ∷ qs) (with_checked c o)
    go exhausted q r = one_out (inl q)
    go (typed t) q (all_ran ts e) = all_ran (t ∷ ts) (q, e)
    go (typed t) q (one_out o) = one_out (inr o)

pub each_ran : (schema : Schema) (qs : List Ast) (ts : List Typed) → Each (Ran schema) qs ts → run_all schema qs ≡ Some ts
unfolding run_all with_checked
each_ran schema [] [] e = refl
each_ran schema [] (t ∷ ts) e = absurd e
each_ran schema (a ∷ qs) [] e = absurd e
each_ran schema (a ∷ qs) (t ∷ ts) e = ap (λ c. with_checked c (run_all schema qs)) e.0 ∙ ap (with_checked (typed t)) (each_ran schema qs ts e.1)

pub any_out : (schema : Schema) (qs : List Ast) → Any (RanOut schema) qs → run_all schema qs ≡ None
unfolding run_all with_checked
any_out schema [] e = absurd e
any_out schema (a ∷ qs) (inl q) = ap (λ c. with_checked c (run_all schema qs)) q ∙ out_first (run_all schema qs)
  where
    out_first : (o : Option (List Typed)) → with_checked exhausted o ≡ None
    out_first o = refl
any_out schema (a ∷ qs) (inr e) = ap (with_checked (check max_visits schema a)) (any_out schema qs e) ∙ out_later (check max_visits schema a)
  where
    out_later : (c : Checked) → with_checked c None ≡ None
    out_later exhausted = refl
    out_later (typed t) = refl
