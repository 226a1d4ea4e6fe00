-- A side is admitted exactly where, resolved, it has no Error and no record that names a field twice. So the answer is
-- ShutOut just where a side reaches what demand 3 shuts out, and of the other answers the laws of Agrees.antt hold.
use mathlib.Core.List.{List}
use mathlib.Core.Logic.{◌↔◌, inl, inr}
use mathlib.Core.Path.{◌≡◌, refl, sym, ◌∙◌}
use Prim.Native.Nat.{ℕ, zero, suc, ◌<◌}
use lib.ListN.{length}
use Rattle.unification.specs.Ty.{Kind, Record, Union, Ty, leaf, node, Var, Error, Row, ε, cell, app, app_row}
use Rattle.unification.specs.Bindings.{Subst, zonk_in, zonk}
use Rattle.unification.specs.Unify.{unify}
use Rattle.unification.specs.Calls.{Lacks, DistinctKeys, Side, LeadsTo, itself, inside, through, RowLeadsTo, first, later, Allowed, Admitted, Machine, Calls}
use Rattle.unification.specs.Tie.{solution}
use Rattle.unification.specs.Acyclic.{Acyclic}
use Rattle.unification.proofs.Tests.{clash}
use Rattle.unification.proofs.Rows.{distinct_app}
use Rattle.unification.proofs.Reach.{reaches_trans}
use Rattle.unification.proofs.Zonk.{zonk_none, zonk_app, zonk_var, zonk_is, zonk_error, zonk_of_bound, zonk_of_node}
use Rattle.unification.proofs.Demand3.{calls_inv}
use Rattle.plain_theory.specs.Plain.{Binding, Stage, In, InRow, needs, Along, PlainResult, solved, failed, full, start}
use Rattle.plain_theory.specs.Solve.{solve}
use Rattle.plain_theory.specs.Answer.{Pure, PureRow, both, pure?, PlainAnswer, Success, Failure, ShutOut, TooFew, of, answer}
use Rattle.plain_theory.specs.Claims.{Ends, AsUnify}
use Rattle.plain_theory.proofs.Start.{in_reaches}
use Rattle.plain_theory.proofs.Runs.{full_exactly}
use Rattle.plain_theory.proofs.Agrees.{fails_exactly, same_bindings}
use Rattle.std.specs.Prelude.{Option}

-- ---- Admitted, so pure

mutual
  unfolding app

  pure_replaced : (f : ℕ → Ty) (t : Ty) → ((y : ℕ) → In y t → Pure (f y)) → Pure t → Pure (app f t)
  pure_replaced f (leaf p) h c = tt
  pure_replaced f (node Record r) h c = (distinct_app f r c.0, pure_row_replaced f r h c.1)
  pure_replaced f (node Union r) h c = pure_row_replaced f r h c
  pure_replaced f (Var y) h c = h y refl
  pure_replaced f Error h c = c

  pure_row_replaced : (f : ℕ → Ty) (r : Row) → ((y : ℕ) → InRow y r → Pure (f y)) → PureRow r → PureRow (app_row f r)
  pure_row_replaced f ε h c = tt
  pure_row_replaced f (cell k l t r) h c = (pure_replaced f t (λ y i. h y (inl i)) c.0, pure_row_replaced f r (λ y i. h y (inr i)) c.1)

mutual
  unfolding Admitted

  pure_itself : (s : Subst) (t : Ty) → Admitted s t → Pure t
  pure_itself s (leaf p) g = tt
  pure_itself s (node Record r) g = (g (node Record r) itself, pure_row_itself s r (λ u h. g u (inside h)))
  pure_itself s (node Union r) g = pure_row_itself s r (λ u h. g u (inside h))
  pure_itself s (Var x) g = tt
  pure_itself s Error g = g Error itself

  pure_row_itself : (s : Subst) (r : Row) → ((u : Ty) → RowLeadsTo s r u → Allowed u) → PureRow r
  pure_row_itself s ε g = tt
  pure_row_itself s (cell k l t r) g = (pure_itself s t (λ u h. g u (first h)), pure_row_itself s r (λ u h. g u (later h)))

pure_zonk_in : (k : ℕ) (s : Subst) (t : Ty) → Admitted s t → Pure (zonk_in k s t)
unfolding Admitted
pure_zonk_in zero s t g = rw (zonk_none s t) (pure_itself s t g)
pure_zonk_in (suc k) s t g =
    rw (zonk_app k s t)
    (pure_replaced (λ y. zonk_in (suc k) s (Var y)) t (λ y h. zonk_var k s y Pure (λ e. tt)
    (λ u e. pure_zonk_in k s u (λ v j. g v (reaches_trans s (in_reaches s y t h) (through e j))))) (pure_itself s t g))

-- ---- Pure, so admitted

lacks_back : (f : ℕ → Ty) (k : ℕ) (r : Row) → Lacks k (app_row f r) → Lacks k r
unfolding app_row
lacks_back f k ε h = tt
lacks_back f k (cell m l t r) h = (h.0, lacks_back f k r h.1)

distinct_back : (f : ℕ → Ty) (r : Row) → DistinctKeys (app_row f r) → DistinctKeys r
unfolding app_row
distinct_back f ε h = tt
distinct_back f (cell k l t r) h = (lacks_back f k r h.0, distinct_back f r h.1)

module _ (s : Subst) (A : Acyclic s) where
  pure_allowed : (u : Ty) → Pure (zonk s u) → Allowed u
  pure_allowed (leaf p) h = tt
  pure_allowed (node Record r) h = distinct_back (solution s) r (rw (zonk_of_node s A Record r) at h).0
  pure_allowed (node Union r) h = tt
  pure_allowed (Var x) h = tt
  pure_allowed Error h = rw (zonk_error s) at h

  pure_row : (k : Kind) (r : Row) → Pure (zonk s (node k r)) → PureRow (app_row (solution s) r)
  pure_row Record r h = (rw (zonk_of_node s A Record r) at h).1
  pure_row Union r h = rw (zonk_of_node s A Union r) at h

  mutual
    unfolding app_row

    reached_allowed : (t u : Ty) → LeadsTo s t u → Pure (zonk s t) → Allowed u
    reached_allowed t u itself h = pure_allowed u h
    reached_allowed t u (inside {k} {r} i) h = reached_row_allowed r u i (pure_row k r h)
    reached_allowed t u (through {x} {t = w} e i) h = reached_allowed w u i (rw (zonk_of_bound s A x w e) at h)

    reached_row_allowed : (r : Row) (u : Ty) → RowLeadsTo s r u → PureRow (app_row (solution s) r) → Allowed u
    reached_row_allowed r u (first {t = w} i) h = reached_allowed w u i (rw (zonk_is s A w) h.0)
    reached_row_allowed r u (later {r = r'} i) h = reached_row_allowed r' u i h.1

  pub admitted_exactly : (t : Ty) → Admitted s t ↔ Pure (zonk s t)
  unfolding Admitted zonk
  admitted_exactly t = (pure_zonk_in (length s) s t, λ h u i. reached_allowed t u i h)

-- ---- The answer

of_shut : (r : PlainResult) → ¬ (of r ≡ ShutOut)
unfolding of
of_shut (solved bs) e = clash (cc)
of_shut failed e = clash (cc)
of_shut full e = clash (cc)

of_failed : (r : PlainResult) → (of r ≡ Failure) ↔ (r ≡ failed)
unfolding of
of_failed (solved bs) = (λ e. clash (cc), λ e. clash (cc))
of_failed failed = (λ e. refl, λ e. refl)
of_failed full = (λ e. clash (cc), λ e. clash (cc))

of_full : (r : PlainResult) → (of r ≡ TooFew) ↔ (r ≡ full)
unfolding of
of_full (solved bs) = (λ e. clash (cc), λ e. clash (cc))
of_full failed = (λ e. clash (cc), λ e. clash (cc))
of_full full = (λ e. refl, λ e. refl)

of_solved : (r : PlainResult) (bs : List Binding) → of r ≡ Success bs → r ≡ solved bs
unfolding of
of_solved (solved cs) bs e = cc
of_solved failed bs e = clash (cc)
of_solved full bs e = clash (cc)

module _ (lent : ℕ) (s : Subst) (A : Acyclic s) (a b : Ty) where
  answer_by : (Q : PlainAnswer → Type 0) → (Pure (zonk s a) × Pure (zonk s b) → Q (of (solve lent (start s a b))))
      → (¬ (Pure (zonk s a) × Pure (zonk s b)) → Q ShutOut) → Q (answer lent s a b)
  unfolding answer
  answer_by Q f g = go (both (pure? (zonk s a)) (pure? (zonk s b))) refl
    where
      go : (d : Dec (Pure (zonk s a) × Pure (zonk s b))) → both (pure? (zonk s a)) (pure? (zonk s b)) ≡ d → Q (answer lent s a b)
      go (yes h) q = rw (q, answer) (f h)
      go (no n) q = rw (q, answer) (g n)

  -- Just where a side reaches what demand 3 shuts out.
  pub shut_out_exactly : (answer lent s a b ≡ ShutOut) ↔ (¬ (Admitted s a × Admitted s b))
  shut_out_exactly = answer_by (λ r. (r ≡ ShutOut) ↔ (¬ (Admitted s a × Admitted s b)))
      (λ h. (λ e. absurd (of_shut (solve lent (start s a b)) e), λ n. absurd (n ((admitted_exactly s A a).1 h.0, (admitted_exactly s A b).1 h.1))))
      (λ n. (λ e h. n ((admitted_exactly s A a).0 h.0, (admitted_exactly s A b).0 h.1), λ h. refl))

  pub admitted_answer : Admitted s a → Admitted s b → answer lent s a b ≡ of (solve lent (start s a b))
  admitted_answer f g = answer_by (λ r. r ≡ of (solve lent (start s a b))) (λ h. refl)
      (λ n. absurd (n ((admitted_exactly s A a).0 f, (admitted_exactly s A b).0 g)))

  -- 18, on sides that demand 3 admits: exactly where a stage of the run needs more words than were lent.
  pub too_few_exactly : Admitted s a → Admitted s b → (answer lent s a b ≡ TooFew) ↔ ((h : Stage) × Along (start s a b) h × (lent < needs h))
  too_few_exactly f g =
      let e = admitted_answer f g in
      let o = of_full (solve lent (start s a b)) in
      let x = full_exactly lent (start s a b) in
      (λ q. x.0 (o.0 (sym e ∙ q)), λ h. e ∙ o.1 (x.1 h))

pub as_unify : (lent v : ℕ) (tys : List (Option Ty)) (m : Machine) → Calls v tys m → (a b : Ty) → Side (length m.state.subst) a
    → Side (length m.state.subst) b
    → Ends (unify m.state a b) → AsUnify lent m.state a b
as_unify lent v tys m cs a b i j ended =
    let s = m.state.subst in
    let A = (calls_inv v tys m cs).sound.wf.acyclic in
    let r = solve lent (start s a b) in
    record {
      shuts_out = shut_out_exactly lent s A a b;
      too_few = too_few_exactly lent s A a b;
      fails = λ f g n.
          let e = admitted_answer lent s A a b f g in
          let x = fails_exactly v tys m cs a b i j f g lent ended (λ q. n (e ∙ (of_full r).1 q)) in
          (λ q. x.0 ((of_failed r).0 (sym e ∙ q)), λ h. e ∙ (of_failed r).1 (x.1 h));
      bindings = λ f g after bs q p σ. same_bindings v tys m cs a b i j f g lent after bs q (of_solved r bs (sym (admitted_answer lent s A a b f g) ∙ p)) σ;
    }
