-- A query's whole run with its entries counted, and the queries from a place on, one after the other.
use Rattle.std.proofs.Common.{List, [], ◌∷◌, ◌≡◌, ℕ, ◌+◌, ◌≤◌, ◌<◌, length, get_or, refl, sym, ap, ◌∙◌, subst, arith}
use Rattle.std.specs.Prelude.{Err, None, Ok, Option, Result, Some}
use Rattle.std.specs.Option.{ok_or}
use Rattle.std.specs.Result.{IsErrAnd}
use Rattle.std.proofs.lemmas.Result.{err_from_is_err_and}
use borrow.Author.Tests.{lt-ltb}
use Rattle.reading.specs.declared.Refusal.{Refusal}
use Rattle.unification.specs.Ty as Tree
use Rattle.unification.proofs.Tests.{clash}
use Rattle.work.specs.Layout.{ENTERED}
use Rattle.cells.specs.Stands.{Rows}
use Rattle.format.specs.Syntax.{Ast}
use Rattle.format.specs.All.{All}
use Rattle.format.specs.File.{Form, view_of}
use Rattle.format.specs.Sound.{Sound}
use Rattle.meaning.specs.Check.{Step, goes, out, the_end, begin, Typed, typed, checked, check}
use Rattle.meaning.specs.Run.{run}
use Rattle.meaning.specs.Outcome.{min_words, max_visits, with_checked, run_all}
use Rattle.laws.proofs.Until.{run_few}
use Rattle.tree.specs.Stands.{SchemaStands}
use Rattle.state.specs.Lines.{capped}
use Rattle.state.specs.declared.Until.TheVariants as Until
use Rattle.checker.specs.Promises.{Ran, to_the_end, ended_early, run_until, Queries}
use Rattle.loading.specs.Promises.{Ahead, Loads}
use Rattle.loading.proofs.Lines.{query_ahead}
use Rattle.seek.specs.Promises.{SchemaIn, EntriesCounted, CountsEntries, RanOn, RunsOn}
use Rattle.seek.specs.Spending.{run_visits, SpendsOnRun, SpendsOnRest}
use Rattle.seek.proofs.Counting.{out_first, goes_first}
use Rattle.seek.proofs.Spending.{spends_none, spends_first, spends_stop}
use Rattle.cabinet.specs.declared.Account.TheVariants.{Open}
use Rattle.checker.specs.Paid.{Pays, Notes}
use Rattle.driver.specs.Spending.{SpendsOn}
use Rattle.unify.specs.declared.Purse.{Purse}
use Rattle.unify.specs.Purses.{spent}

-- ---- What comes through a `?`

-- The callee's refusal.
pub passed_on : {A : Type 0} (r : Result A Refusal) {e : Refusal} → IsErrAnd r (λ x. x ≡ e) → r ≡ Err e
passed_on r h = let p = err_from_is_err_and r h in p.1 ∙ ap Err p.2

-- The refusal that stands for None.
pub turned_to : {A B : Type 0} (r : Result A Refusal) {e : Refusal} (o : Option B) (refusal : Refusal) → IsErrAnd r (λ x. x ≡ e) → o ≡ None
    → ◌≡◌ {A = Result B Refusal} (Err e) (ok_or o refusal) → r ≡ Err refusal
turned_to {A} {B} r {e} o refusal h n v =
    let z : ◌≡◌ {A = Result B Refusal} (Err e) (Err refusal) = v ∙ ap (λ (x : Option B). ok_or x refusal) n in
    let same : e ≡ refusal = cc in
    passed_on r h ∙ ap Err same

pub ok_parts : {a b x y : ℕ} → ◌≡◌ {A = Result (ℕ × ℕ) Refusal} (Ok (a, b)) (Ok (x, y)) → (a ≡ x) × (b ≡ y)
ok_parts {a} {b} {x} {y} e =
    let z : ◌≡◌ {A = ℕ × ℕ} (a, b) (x, y) = cc in
    (ap (λ (p : ℕ × ℕ). p.0) z, ap (λ (p : ℕ × ℕ). p.1) z)

-- ---- A query

-- The count of a run that went to its end is exact.
capped_few : (n : ℕ) → n ≤ 1048576 → capped n ≡ n
unfolding capped
capped_few n h = rw (lt-ltb n 4294967295 (omega arith), capped)

run_is : (form : Form) (a : Ast) → run_until the_end (view_of form a) 1048576 ≡ run form.schema a max_visits
unfolding run begin run_until view_of max_visits
run_is form a = refl

module _ {f w w₁ o w₂ o' : List ℕ} {at next : ℕ} {x : Option ℕ} (L : Loads f at w w₁ next) (Q : Queries f w₁ o Until.TheEnd 1048576 w₂ o' x) where
  ran : (T : Rows) (form : Form) (a : Ast) (qs : List Ast) → Sound (view_of form a) → min_words ≤ length w → SchemaStands f w T form.names form.schema
      → Ahead f at (a ∷ qs) → Ran f w₂ o' (view_of form a) x (run form.schema a max_visits)
  unfolding view_of
  ran T form a qs s l S A = rw (sym (run_is form a)) (Q.is T (view_of form a) s (L.stands T (view_of form a) qs s l S A))

  pub query_on : {left m : ℕ} → x ≡ Some left → m ≡ get_or w₂ ENTERED 0 → CountsEntries f at w w₂ (Ok (next, m))
  unfolding EntriesCounted view_of max_visits
  query_on {left} {m} e count = record {
    is = λ T form a qs s l S A. go form a qs (L.ahead (view_of form a) qs s l A) (run form.schema a max_visits) refl (ran T form a qs s l S A);
    onward = λ n k q. let same : n ≡ next = sym (ok_parts q).0 in rw same (L.onward, L.within);
    words = Q.words ∙ L.words.long;
  }
    where
      go : (form : Form) (a : Ast) (qs : List Ast) → Ahead f next qs → (s : Step Tree.Ty) → run form.schema a max_visits ≡ s → Ran f w₂ o' (view_of form a) x s
          → EntriesCounted f w₂ form qs (Ok (next, m)) s
      go form a qs A (goes ty c) q (to_the_end T R t p) =
          let few : length c.entries ≤ 1048576 = run_few form.schema a max_visits ty c q in
          (next, ap (λ m. Ok (next, m)) (count ∙ t.entered ∙ capped_few (length c.entries) few), A, (T, R.stands.schema))
      go form a qs A (out c) q (ended_early T R t k p) = clash (cc (e, p))

  pub query_spends : {p p' : Purse} → Pays 1048576 p p' → Notes w₂ p' x → SpendsOnRun f at w p p'
  unfolding check checked run max_visits
  query_spends {p} {p'} pays notes = record { made = λ T form a qs s l S A. go form a (run form.schema a max_visits) (ran T form a qs s l S A) }
    where
      go : (form : Form) (a : Ast) (s : Step Tree.Ty) → Ran f w₂ o' (view_of form a) x s → spent p' ≤ spent p + run_visits (checked max_visits s)
      go form a (goes ty c) (to_the_end T R t e) = omega (arith, pays, notes.back _ e)
      go form a (out c) (ended_early T R t k e) = omega (arith, pays)

  pub query_out : x ≡ None → CountsEntries f at w w₂ (Err Refusal.TooManyVisits)
  unfolding EntriesCounted
  query_out e = record {
    is = λ T form a qs s l S A. go form a qs (run form.schema a max_visits) (ran T form a qs s l S A);
    onward = λ n k q. clash (cc q);
    words = Q.words ∙ L.words.long;
  }
    where
      go : (form : Form) (a : Ast) (qs : List Ast) (s : Step Tree.Ty) → Ran f w₂ o' (view_of form a) x s
          → EntriesCounted f w₂ form qs (Err Refusal.TooManyVisits) s
      go form a qs (goes ty c) (to_the_end T R t p) = clash (cc (e, p))
      go form a qs (out c) (ended_early T R t k p) = refl

-- ---- The queries from a place on

-- Those that are left, of those whose runs come to o.
record Left (f w : List ℕ) (form : Form) (at : ℕ) (whole : List Ast) (p₀ p : Purse) : Type 0 where
  qs : List Ast
  sound : All (λ a. Sound (view_of form a)) qs
  ahead : Ahead f at qs
  stands : SchemaIn f w form
  back : (b : Result (Unit {0}) Refusal) (w' : List ℕ) → RanOn f w' form b (run_all form.schema qs)
      → RanOn f w' form b (run_all form.schema whole)
  spends : (p' : Purse) → SpendsOn form.schema qs Open p p' → SpendsOn form.schema whole Open p₀ p'

pub record Running (f : List ℕ) (from : ℕ) (w₀ w : List ℕ) (at : ℕ) (p₀ p : Purse) : Type 0 where
  pub words : length w ≡ length w₀
  is : (T : Rows) (form : Form) (qs : List Ast) → All (λ a. Sound (view_of form a)) qs → min_words ≤ length w₀
      → SchemaStands f w₀ T form.names form.schema → Ahead f from qs → Left f w form at qs p₀ p

pub run_start : (f : List ℕ) (from : ℕ) (w : List ℕ) (p : Purse) → Running f from w w from p p
run_start f from w p = record {
  words = refl;
  is = λ T form qs s l S A. record { qs = qs; sound = s; ahead = A; stands = (T, S); back = λ b w' r. r; spends = λ p' s. s };
}

typed_on : (f w : List ℕ) (form : Form) (b : Result (Unit {0}) Refusal) (t : Typed) (o : Option (List Typed)) → RanOn f w form b o
    → RanOn f w form b (with_checked (typed t) o)
unfolding RanOn with_checked
typed_on f w form b t None r = r
typed_on f w form b t (Some ts) r = r

module _ {f : List ℕ} {from : ℕ} {w₀ w : List ℕ} {at : ℕ} {p₀ p : Purse} (R : Running f from w₀ w at p₀ p) where
  pub run_end : length f ≤ at → RunsOn f from w₀ w (Ok tt)
  unfolding RanOn run_all
  run_end end = record {
    is = λ T form qs s l S A. let b = R.is T form qs s l S A in go b b.qs b.ahead b.back;
    words = R.words;
  }
    where
      go : {form : Form} {all : List Ast} → Left f w form at all p₀ p → (qs : List Ast) → Ahead f at qs
          → ((b : Result (Unit {0}) Refusal) (w' : List ℕ) → RanOn f w' form b (run_all form.schema qs) → RanOn f w' form b (run_all form.schema all))
          → RanOn f w form (Ok tt) (run_all form.schema all)
      go b [] a k = k (Ok tt) w (refl, b.stands)
      go b (x ∷ qs) a k = absurd (omega (arith, query_ahead a))

  pub run_end_spends : length f ≤ at → SpendsOnRest f from w₀ p₀ p
  run_end_spends end = λ T form qs s l S A. let b = R.is T form qs s l S A in go b b.qs b.ahead b.spends
    where
      go : {form : Form} {all : List Ast} → Left f w form at all p₀ p → (qs : List Ast) → Ahead f at qs
          → ((p' : Purse) → SpendsOn form.schema qs Open p p' → SpendsOn form.schema all Open p₀ p') → SpendsOn form.schema all Open p₀ p
      go {form} b [] a k = k p (spends_none form.schema p)
      go b (x ∷ qs) a k = absurd (omega (arith, query_ahead a))

  module _ (here : at < length f) {w₁ : List ℕ} {t : Result (ℕ × ℕ) Refusal} (G : CountsEntries f at w w₁ t) {p₁ : Purse} (G' : SpendsOnRun f at w p p₁) where
    pub run_next : {next m : ℕ} → t ≡ Ok (next, m) → Running f from w₀ w₁ next p₀ p₁
    unfolding EntriesCounted
    run_next {next} {m} e = record {
      words = G.words ∙ R.words;
      is = λ T form qs s l S A. let b = R.is T form qs s l S A in go b (omega (arith, R.words, l)) b.qs b.sound b.ahead b.back b.spends;
    }
      where
        go : {form : Form} {all : List Ast} → Left f w form at all p₀ p → min_words ≤ length w → (qs : List Ast) → All (λ a. Sound (view_of form a)) qs
            → Ahead f at qs
            → ((b : Result (Unit {0}) Refusal) (w' : List ℕ) → RanOn f w' form b (run_all form.schema qs) → RanOn f w' form b (run_all form.schema all))
            → ((p' : Purse) → SpendsOn form.schema qs Open p p' → SpendsOn form.schema all Open p₀ p') → Left f w₁ form next all p₀ p₁
        go b l [] s a k m = absurd (omega (arith, a.ended refl))
        go {form} {all} b l (x ∷ qs) s a k m =
            step (run form.schema x max_visits) refl (G.is b.stands.0 form x qs s.0 l b.stands.1 a)
          where
            step : (y : Step Tree.Ty) → run form.schema x max_visits ≡ y → EntriesCounted f w₁ form qs t y → Left f w₁ form next all p₀ p₁
            step (goes ty c) q h =
                let same : h.0 ≡ next = (ok_parts (sym h.1 ∙ e)).0 in
                let g = goes_first form.schema x qs q in
                record {
                  qs = qs;
                  sound = s.1;
                  ahead = rw (sym same) h.2;
                  stands = h.3;
                  back = λ b w' r. k b w' (subst (RanOn f w' form b) (sym g.1) (typed_on f w' form b g.0 (run_all form.schema qs) r));
                  spends = λ p' r. m p' (spends_first qs (G'.made b.stands.0 form x qs s.0 l b.stands.1 a) q r);
                }
            step (out c) q h = clash (cc (h, e))

    pub run_out : {fault : Refusal} → t ≡ Err fault → RunsOn f from w₀ w₁ (Err fault)
    unfolding EntriesCounted RanOn
    run_out {fault} e = record {
      is = λ T form qs s l S A. let b = R.is T form qs s l S A in go b (omega (arith, R.words, l)) b.qs b.sound b.ahead b.back;
      words = G.words ∙ R.words;
    }
      where
        go : {form : Form} {all : List Ast} → Left f w form at all p₀ p → min_words ≤ length w → (qs : List Ast) → All (λ a. Sound (view_of form a)) qs
            → Ahead f at qs
            → ((b : Result (Unit {0}) Refusal) (w' : List ℕ) → RanOn f w' form b (run_all form.schema qs) → RanOn f w' form b (run_all form.schema all))
            → RanOn f w₁ form (Err fault) (run_all form.schema all)
        go b l [] s a k = absurd (omega (arith, a.ended refl))
        go {form} {all} b l (x ∷ qs) s a k =
            step (run form.schema x max_visits) refl (G.is b.stands.0 form x qs s.0 l b.stands.1 a)
          where
            step : (y : Step Tree.Ty) → run form.schema x max_visits ≡ y → EntriesCounted f w₁ form qs t y → RanOn f w₁ form (Err fault) (run_all form.schema all)
            step (goes ty c) q h = clash (cc (h.1, e))
            step (out c) q h =
                let same : fault ≡ Refusal.TooManyVisits = cc in
                k (Err fault) w₁ (subst (RanOn f w₁ form (Err fault)) (sym (out_first form.schema x qs q)) (ap Err same))

    pub run_out_spends : {fault : Refusal} → t ≡ Err fault → SpendsOnRest f from w₀ p₀ p₁
    unfolding EntriesCounted
    run_out_spends {fault} e = λ T form qs s l S A. let b = R.is T form qs s l S A in go b (omega (arith, R.words, l)) b.qs b.sound b.ahead b.spends
      where
        go : {form : Form} {all : List Ast} → Left f w form at all p₀ p → min_words ≤ length w → (qs : List Ast) → All (λ a. Sound (view_of form a)) qs
            → Ahead f at qs → ((p' : Purse) → SpendsOn form.schema qs Open p p' → SpendsOn form.schema all Open p₀ p') → SpendsOn form.schema all Open p₀ p₁
        go b l [] s a m = absurd (omega (arith, a.ended refl))
        go {form} {all} b l (x ∷ qs) s a m =
            step (run form.schema x max_visits) refl (G.is b.stands.0 form x qs s.0 l b.stands.1 a)
          where
            step : (y : Step Tree.Ty) → run form.schema x max_visits ≡ y → EntriesCounted f w₁ form qs t y → SpendsOn form.schema all Open p₀ p₁
            step (goes ty c) q h = clash (cc (h.1, e))
            step (out c) q h = m p₁ (spends_stop qs (G'.made b.stands.0 form x qs s.0 l b.stands.1 a) q)
