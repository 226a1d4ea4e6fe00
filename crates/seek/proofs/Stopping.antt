-- The entry's query run again: it ends right before the entry, in its state, and the four words have its sides.
use mathlib.Core.List.{List, ◌∷◌}
use mathlib.Core.Path.{◌≡◌, refl, sym, ap, ◌∙◌, subst}
use Prim.Native.Nat.{ℕ, ◌+◌, ◌-◌, ◌≤◌, ◌<◌}
use native.Mathlib.Omega.{arith}
use lib.ListN.{length, get_or}
use Rattle.unification.specs.Ty as Tree
use Rattle.unification.specs.Calls.{UnifyEntry}
use Rattle.unification.proofs.Tests.{clash}
use Rattle.work.specs.Layout.{GOT, EXPECTED, LEFT}
use Rattle.cells.specs.declared.Ty.{Ty}
use Rattle.cells.specs.Words.{ty_w}
use Rattle.cells.specs.Stands.{Rows}
use Rattle.format.specs.Syntax.{Ast}
use Rattle.format.specs.File.{Form, view_of}
use Rattle.meaning.specs.Check as Check
use Rattle.meaning.specs.Check.{Checker, Step, goes, out, begin_until, query}
use Rattle.meaning.specs.Run.{ending}
use Rattle.meaning.specs.Outcome.{min_words, max_visits}
use Rattle.entries.specs.Entries as Defined
use Rattle.entries.specs.Entries.{entries_of, nth, found, among}
use Rattle.entries.proofs.Entries.{StopsAt, stops_at}
use Rattle.state.specs.Lines.{side_w, EntrySides, AtEntry}
use Rattle.state.specs.declared.Until.TheVariants as Until
use Rattle.checker.specs.Promises.{Ran, to_the_end, ended_early, run_until, Queries}
use Rattle.checker.specs.Paid.{Pays, Notes}
use Rattle.seek.specs.Spending.{visits_up_to, SpendsUpTo}
use Rattle.unify.specs.declared.Purse.{Purse}
use Rattle.unify.specs.Purses.{spent}
use Rattle.loading.specs.Promises.{Loads}
use Rattle.seek.specs.Promises.{SoughtHere, ToldSought, StopsAtEntry}
use Rattle.seek.proofs.Counting.{until_kept}
use Rattle.std.specs.Prelude.{Ok, Option, Some}

-- A type read from two words.
pub side_is : (w : List ℕ) (at : ℕ) {tag payload : ℕ} {t : Ty} → t ≡ ty_w tag payload → tag ≡ get_or w at 0 → payload ≡ get_or w (at + 1) 0 → t ≡ side_w w at
unfolding side_w
side_is w at e p q = rw (e, p, q)

sides_of : (w : List ℕ) (T : Rows) {n : ℕ} {e : UnifyEntry} {older : List UnifyEntry} (u : Check.Until) (es : List UnifyEntry) → AtEntry w T u es
    → u ≡ Check.entry n
    → es ≡ e ∷ older → length older ≡ n → EntrySides w T (e ∷ older)
sides_of w T {n} {e} {older} u es k p q m =
    let j : n < length (e ∷ older) → EntrySides w T (e ∷ older) = rw (p, q) at k in
    j (omega (arith, m))

run_is : (form : Form) (a : Ast) (n : ℕ) → run_until (Check.entry n) (view_of form a) 1048576
    ≡ query form.schema a.nodes a.query (begin_until (Check.entry n) max_visits (length a.nodes))
unfolding run_until view_of max_visits
run_is form a n = refl

module _ {f w w₁ o w₂ o' : List ℕ} {at n next : ℕ} {x : Option ℕ} (L : Loads f at w w₁ next) (Q : Queries f w₁ o (Until.Entry n) 1048576 w₂ o' x) where
  pub stops : {a b : Ty} → a ≡ side_w w₂ GOT → b ≡ side_w w₂ EXPECTED → StopsAtEntry f at n w w₂ (a, b)
  unfolding view_of among ending
  stops {a} {b} got expected = record { is = go; words = Q.words ∙ L.words.long }
    where
      go : (form : Form) (s : Defined.Sought) → min_words ≤ length w → SoughtHere f w form at n s → ToldSought w₂ (Ok (Some (a, b))) s
      go form s l W =
          let d = view_of form W.query in
          let S = stops_at form.schema W.query W.ty W.last W.ran n W.here in
          let ends : run_until (Check.entry n) d 1048576 ≡ out S.at = run_is form W.query n ∙ S.is in
          let kept : S.at.until ≡ Check.entry n = sym (ap (λ y. (ending y).until) S.is) ∙ until_kept form.schema W.query (Check.entry n) max_visits in
          let it : s ≡ found S.here = W.is ∙ ap among S.nth_is in
          subst (ToldSought w₂ (Ok (Some (a, b)))) (sym it) (by (run_until (Check.entry n) d 1048576) S ends kept
          (Q.is W.rows d W.sound (L.stands W.rows d W.more W.sound l W.stands W.ahead)))
        where
          by : (y : Step Tree.Ty) (S : StopsAt form.schema W.query n) → y ≡ out S.at → S.at.until ≡ Check.entry n
              → Ran f w₂ o' (view_of form W.query) x y → ToldSought w₂ (Ok (Some (a, b))) (found S.here)
          by (goes ty c) S e u r = clash (cc e)
          by (out c) S e u (ended_early T R t k p) =
              let same : c ≡ S.at = cc e in
              let sides : EntrySides w₂ T (S.here ∷ S.older) = sides_of w₂ T c.until c.entries k (ap (λ y. y.until) same ∙ u)
              (ap {B = List UnifyEntry} (λ y. y.entries) same ∙ S.newest) S.count in (
                a,
                b,
                refl,
                record {
                  rows = T;
                  state = c.state;
                  holds = R.holds;
                  before = ap (λ y. y.state.subst) same ∙ sym S.before;
                  got_there = rw got sides.0;
                  got = rw got sides.1;
                  expected_there = rw expected sides.2;
                  expected = rw expected sides.3;
                },
              )

  -- It spends what the definition's run does up to the entry.
  pub stops_spends : {p p' : Purse} → Pays 1048576 p p' → Notes w₂ p' x → SpendsUpTo f at n w p p'
  unfolding view_of visits_up_to ending max_visits min_words
  stops_spends {p} {p'} pays notes = record { made = made }
    where
      made : (form : Form) (s : Defined.Sought) → min_words ≤ length w → (W : SoughtHere f w form at n s)
          → spent p' ≤ spent p + visits_up_to form.schema W.query n
      made form s l W =
          let d = view_of form W.query in
          by (run_until (Check.entry n) d 1048576) (run_is form W.query n) (Q.is W.rows d W.sound (L.stands W.rows d W.more W.sound l W.stands W.ahead))
        where
          left_by : (y : Step Tree.Ty) → Ran f w₂ o' (view_of form W.query) x y → spent p' ≤ spent p + (max_visits - (ending y).state.left)
          left_by (goes ty c) (to_the_end T R t q) = omega (arith, pays, notes.back _ q)
          left_by (out c) (ended_early T R t k q) =
              let noted : get_or w₂ LEFT 0 ≡ p'.left = notes.noted q (omega (arith, l, Q.words, L.words.long)) in
              omega (arith, pays, noted, t.left)

          by : (y : Step Tree.Ty) → y ≡ query form.schema W.query.nodes W.query.query (begin_until (Check.entry n) max_visits (length W.query.nodes))
              → Ran f w₂ o' (view_of form W.query) x y → spent p' ≤ spent p + visits_up_to form.schema W.query n
          by y e r = subst (λ (z : Step Tree.Ty). spent p' ≤ spent p + (max_visits - (ending z).state.left)) e (left_by y r)
