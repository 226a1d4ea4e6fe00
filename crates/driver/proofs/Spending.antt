-- What a call spends, by what its queries spend; and a desk is charged for it, since the visits of queries in turn are what they are.
use mathlib.Core.Bool.{Bool}
use mathlib.Core.List.{List, [], ◌∷◌}
use mathlib.Core.Path.{◌≡◌, refl, sym, ap, subst, ◌∙◌}
use Prim.Native.Nat.{ℕ, ◌+◌, ◌<◌, ◌≤◌}
use native.Mathlib.Omega.{arith}
use borrow.Author.Tests.{ltb-true, ltb-false, lt-ltb, le-ltb}
use lib.Dec.{ltb}
use lib.ListN.{length}
use Rattle.std.specs.Prelude.{Err, Ok, Result, sum}
use Rattle.unification.proofs.Tests.{clash}
use Rattle.cabinet.specs.declared.Account.{Account}
use Rattle.cabinet.specs.declared.Group.{Group}
use Rattle.cabinet.specs.declared.Desk.{Desk}
use Rattle.cabinet.specs.Cabinet.{desk}
use Rattle.cabinet.specs.Promises.{At}
use Rattle.cabinet.specs.Accounts.{group_in}
use Rattle.format.specs.Frame.{wide}
use Rattle.format.specs.Schema.{Schema}
use Rattle.format.specs.Syntax.{Ast}
use Rattle.format.specs.Refusal as Meaning
use Rattle.format.specs.File.{Form, Reading, refused, described, reading}
use Rattle.format.proofs.Tests.{cases}
use Rattle.meaning.specs.Check.{Typed}
use Rattle.meaning.specs.Outcome as Defined
use Rattle.meaning.specs.Outcome.{min_words}
use Rattle.cells.specs.Stands.{Rows}
use Rattle.tree.specs.Stands.{SchemaStands}
use Rattle.reading.specs.Promises.{ReadingEnds, reading_in, ReadsFile}
use Rattle.reading.specs.declared.Refusal.{Refusal}
use Rattle.unify.specs.declared.Purse.{Purse}
use Rattle.unify.specs.Purses.{spent}
use Rattle.driver.specs.At.{desk_account}
use Rattle.driver.specs.Charges.{InTurn, over, ended, stopped, Pays}
use Rattle.driver.specs.Promises.{RunsFile}
use Rattle.driver.specs.declared.Settled.{Settled}
use Rattle.driver.proofs.Charges.{pays}
use Rattle.driver.specs.Spending.{SpendsOn, SpendsOnQueries, SpendsOnFile, ChargesSpent}

-- ---- The reading

module _ {f w w₁ : List ℕ} {r : Result (Unit {0}) Refusal} (h : ReadsFile wide f w w₁ r) where
  -- It comes to what is read, in words that are enough.
  long_enough : min_words ≤ length w → reading_in wide f (length w) ≡ reading f
  unfolding reading_in
  long_enough l = rw (le-ltb (length w) min_words l, reading_in)

  too_short : length w < min_words → reading_in wide f (length w) ≡ refused Meaning.work_too_short
  unfolding reading_in
  too_short l = rw (lt-ltb (length w) min_words l, reading_in)

  pub unread_spends : {e : Refusal} → r ≡ Err e → (a : Account) (p : Purse) → SpendsOnFile f (length w) a p p
  unfolding ReadingEnds
  unread_spends {e} q a p = record {
    short = λ l. omega arith;
    refused = λ i s. omega arith;
    queries = λ form l s. go form (subst (ReadingEnds wide f w₁ r) (long_enough l ∙ s) h.ends);
  }
    where
      go : (form : Form) → ReadingEnds wide f w₁ r (described form) → SpendsOn form.schema form.queries a p p
      go form g = clash (cc (q, g.0))

  pub read_spends : r ≡ Ok tt → {a : Account} {p p' : Purse} → SpendsOnQueries f w₁ a p p' → SpendsOnFile f (length w) a p p'
  unfolding ReadingEnds min_words
  read_spends q {a} {p} {p'} runs = record {
    short = λ l. none Meaning.work_too_short (subst (ReadingEnds wide f w₁ r) (too_short l) h.ends);
    refused = λ i s. cases (ltb (length w) min_words)
        (λ b. none Meaning.work_too_short (subst (ReadingEnds wide f w₁ r) (too_short (ltb-true (length w) min_words b)) h.ends))
        (λ b. none i (subst (ReadingEnds wide f w₁ r) (long_enough (ltb-false (length w) min_words b) ∙ s) h.ends));
    queries = λ form l s. let g = stands form (subst (ReadingEnds wide f w₁ r) (long_enough l ∙ s) h.ends) in runs g.1.0 form s g.0 g.1.1;
  }
    where
      none : (i : Meaning.Refusal) → ReadingEnds wide f w₁ r (refused i) → spent p' ≤ spent p
      none i g = clash (cc (q, g.1))

      stands : (form : Form) → ReadingEnds wide f w₁ r (described form)
          → (min_words ≤ length w₁) × ((T : Rows) × SchemaStands f w₁ T form.names form.schema)
      stands form g = (g.1, (g.2.0, g.2.1))

-- ---- A desk

-- The visits of queries in turn are determined.
in_turn_once : {schema : Schema} {a : Account} (qs : List Ast) {n : ℕ} {visits others : List ℕ} {all each : Bool} → InTurn schema a qs n visits all
    → InTurn schema a qs n others each → visits ≡ others
in_turn_once [] over over = refl
in_turn_once (q ∷ qs) (stopped e) (stopped e') = refl
in_turn_once (q ∷ qs) (stopped e) (ended t e' s) = clash (cc (e, e'))
in_turn_once (q ∷ qs) (ended t e s) (stopped e') = clash (cc (e, e'))
in_turn_once {schema} {a} (q ∷ qs) {n} {all = all} {each = each} (ended {visits = visits} t e s) (ended {visits = others} u e' s') =
    let same : t ≡ u = cc in
    let rest : visits ≡ others = in_turn_once qs s (subst (λ (v : Typed). InTurn schema a qs (n + v.visits) others each) (sym same) s') in
    ap (λ (v : Typed). v.visits ∷ visits) same ∙ ap (λ l. u.visits ∷ l) rest

module _ {g : Group} {d : ℕ} {f : List ℕ} {words : ℕ} {r : Defined.Result} {h : Group} (P : Pays g d f words r h) (at : At g d) (here : d < length g.desks)
    {p p' : Purse} (S : SpendsOnFile f words (desk_account g d) p p') where
  charges_spent : ChargesSpent g d h p p'
  charges_spent = cases (ltb words min_words) (λ b. none (S.short (ltb-true words min_words b))) (λ b. read (ltb-false words min_words b) (reading f) refl)
    where
      its : (desk h d).used ≡ (desk g d).used + P.charge
      its = ap Desk.used (P.used.its here)

      none : spent p' ≤ spent p → ChargesSpent g d h p p'
      none l = omega (arith, l, its)

      read : min_words ≤ words → (x : Reading) → reading f ≡ x → ChargesSpent g d h p p'
      read l (refused i) e = none (S.refused i e)
      read l (described form) e =
          let c = P.queries form at l e in
          let y = S.queries form l e in
          omega (arith, y.spent, its, c.sum, ap sum (in_turn_once form.queries y.turns c.turns))

module _ {g : Group} {d : ℕ} {f w buf w₁ buf₁ : List ℕ} {s : Settled} (R : RunsFile f w buf (desk_account g d) w₁ buf₁ s) {p p' : Purse}
    (S : SpendsOnFile f (length w) (desk_account g d) p p') where
  pub spent_at : At g d → d < length g.desks → {h : Group} → h ≡ group_in s.account → ChargesSpent g d h p p'
  spent_at at here e =
      subst (λ h. ChargesSpent g d h p p') (sym (e ∙ ap group_in R.account)) (charges_spent (pays g d f (length w) (length buf)) at here S)
