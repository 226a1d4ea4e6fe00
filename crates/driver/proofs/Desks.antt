-- A call at a desk is refused exactly under its conditions, and 17 is told of what is outside of the rules alone.
use mathlib.Core.List.{List, [], ◌∷◌}
use mathlib.Core.Logic.{◌↔◌}
use mathlib.Core.Path.{◌≡◌, refl, sym, ap, subst, ◌∙◌}
use Prim.Native.Nat.{ℕ, ◌<◌, ◌≤◌}
use native.Mathlib.Omega.{arith}
use borrow.Author.Tests.{ltb-true, ltb-false, lt-ltb, le-ltb}
use lib.Dec.{ltb}
use lib.ListN.{length}
use Rattle.cabinet.specs.declared.Account.{Account}
use Rattle.cabinet.specs.declared.Group.{Group}
use Rattle.cabinet.specs.Promises.{At}
use Rattle.cabinet.specs.Accounts.{ceiling_in, charged_to}
use Rattle.format.specs.All.{All}
use Rattle.format.specs.Syntax.{Ast}
use Rattle.format.specs.Schema.{Schema}
use Rattle.format.specs.Refusal.{Refusal, work_too_short, answer_too_long, outside_the_rules, number}
use Rattle.format.specs.Refused.{Refused, First, here, later, too_long, at_line, missing_query}
use Rattle.format.specs.Frame.{wide}
use Rattle.format.specs.SoFar.{SoFar, Said}
use Rattle.format.specs.Conditions.{Condition, conditions}
use Rattle.format.specs.File.{Form, view_of, Reading, refused, described, reading}
use Rattle.meaning.specs.Check.{Typed, Checked, typed, exhausted, check}
use Rattle.meaning.specs.Messages.{text_in}
use Rattle.meaning.specs.Answer.{form_lines}
use Rattle.meaning.specs.Run.{RunDemand3, RunAsRobinson}
use Rattle.meaning.specs.Outcome as Defined
use Rattle.meaning.specs.Outcome.{Decided, turned_down, answered, min_words, max_visits, refuse, accept, finish}
use Rattle.format.specs.Sound.{Sound}
use Rattle.format.proofs.Tests.{cases}
use Rattle.format.proofs.Refused.{refused_when}
use Rattle.format.proofs.Sound.{sound}
use Rattle.format.proofs.Lists.{all_map}
use Rattle.meaning.proofs.Run.{sound_well_formed, run_demand_3, run_robinson}
use Rattle.driver.specs.declared.Desked.{Desked}
use Rattle.driver.specs.At.{End, all, stopped, stop_at, first, after, run_at, decide_end, decide_read_at, decide_at, desk_account}
use Rattle.driver.specs.Promises.{result_of, ChecksAt}
use Rattle.driver.specs.Desks as Desks
use Rattle.driver.specs.Desks.{Stops, EndsWithin, none_left, one_more, RefusedAt, for_work, for_file, for_visits, for_answer}

-- ---- The queries in turn

module _ (schema : Schema) where
  pub stops : (qs : List Ast) (a : Account) (i : Refusal) → (run_at schema qs a).end ≡ stopped i → Stops schema qs a i
  unfolding run_at
  stops [] a i e = let z : ◌≡◌ {A = ℕ} 0 1 = cc in absurd (omega arith)
  stops (q ∷ qs) a i e = go (λ b. stops qs b i) (check (ceiling_in a) schema q) refl e
    where
      go : ((b : Account) → (run_at schema qs b).end ≡ stopped i → Stops schema qs b i) → (x : Checked) → check (ceiling_in a) schema q ≡ x
          → (after a x (λ b. run_at schema qs b)).end ≡ stopped i → Stops schema (q ∷ qs) a i
      go rest exhausted p r = let same : stop_at (ceiling_in a) ≡ i = cc in subst (Stops schema (q ∷ qs) a) same (Desks.here p)
      go rest (typed t) p r = Desks.later t p (rest (charged_to a t.visits) (dropped (run_at schema qs (charged_to a t.visits)).end r))
        where
          dropped : (x : End) → first t x ≡ stopped i → x ≡ stopped i
          dropped (all us) e = let z : ◌≡◌ {A = ℕ} 0 1 = cc in absurd (omega arith)
          dropped (stopped j) e = e

  stopped_so : (qs : List Ast) (a : Account) (i : Refusal) → Stops schema qs a i → (run_at schema qs a).end ≡ stopped i
  unfolding run_at
  stopped_so (q ∷ qs) a i (Desks.here p) = ap (λ x. (after a x (λ b. run_at schema qs b)).end) p
  stopped_so (q ∷ qs) a i (Desks.later t p s) = ap (λ x. (after a x (λ b. run_at schema qs b)).end) p ∙ ap (first t) (stopped_so qs (charged_to a t.visits) i s)
  stopped_so [] a i h = elim h [ ]

  ends : (qs : List Ast) (a : Account) (ts : List Typed) → (run_at schema qs a).end ≡ all ts → EndsWithin schema qs a ts
  unfolding run_at
  ends [] a ts e = let same : [] ≡ ts = cc in subst (EndsWithin schema [] a) same none_left
  ends (q ∷ qs) a ts e = go (λ b us. ends qs b us) (check (ceiling_in a) schema q) refl e
    where
      go : ((b : Account) (us : List Typed) → (run_at schema qs b).end ≡ all us → EndsWithin schema qs b us) → (x : Checked) → check (ceiling_in a) schema q ≡ x
          → (after a x (λ b. run_at schema qs b)).end ≡ all ts → EndsWithin schema (q ∷ qs) a ts
      go rest exhausted p r = let z : ◌≡◌ {A = ℕ} 0 1 = cc in absurd (omega arith)
      go rest (typed t) p r = whole (run_at schema qs (charged_to a t.visits)).end refl r
        where
          whole : (x : End) → (run_at schema qs (charged_to a t.visits)).end ≡ x → first t x ≡ all ts → EndsWithin schema (q ∷ qs) a ts
          whole (all us) e f = let same : t ∷ us ≡ ts = cc in subst (EndsWithin schema (q ∷ qs) a) same (one_more t p (rest (charged_to a t.visits) us e))
          whole (stopped j) e f = let z : ◌≡◌ {A = ℕ} 0 1 = cc in absurd (omega arith)

  ended_so : (qs : List Ast) (a : Account) (ts : List Typed) → EndsWithin schema qs a ts → (run_at schema qs a).end ≡ all ts
  unfolding run_at
  ended_so [] a ts none_left = refl
  ended_so (q ∷ qs) a ts (one_more t p s) = ap (λ x. (after a x (λ b. run_at schema qs b)).end) p ∙ ap (first t) (ended_so qs (charged_to a t.visits) _ s)

-- ---- The whole call at a desk

abbrev ending : ℕ → ℕ → Decided → Defined.Result
ending words bytes x = (finish x words bytes).result

module _ (g : Group) (d : ℕ) (f : List ℕ) (words bytes : ℕ) where
  short : words < min_words → (decide_at f words (desk_account g d)).decided ≡ turned_down work_too_short
  unfolding decide_at
  short h = rw (lt-ltb words min_words h, decide_at)

  enough : min_words ≤ words → (decide_at f words (desk_account g d)).decided ≡ (decide_read_at (reading f) (desk_account g d)).decided
  unfolding decide_at
  enough h = rw (le-ltb words min_words h, decide_at)

  reads : (form : Form) → min_words ≤ words → reading f ≡ described form
      → (decide_at f words (desk_account g d)).decided ≡ decide_end (text_in form) (run_at form.schema form.queries (desk_account g d)).end
  unfolding decide_read_at
  reads form h e = enough h ∙ ap (λ x. (decide_read_at x (desk_account g d)).decided) e

  turned : (i j : Refusal) → (ending words bytes) (turned_down i) ≡ Defined.Refused j → i ≡ j
  unfolding finish refuse
  turned i j e = cc

  -- To be refused is to be refused so.
  so : (i : Refusal) → RefusedAt g d f words bytes i → (ending words bytes) (decide_at f words (desk_account g d)).decided ≡ Defined.Refused i
  unfolding finish refuse decide_read_at
  so i (for_work h) = ap (ending words bytes) (short h)
  so i (for_file h r) = ap (ending words bytes) (enough h ∙ ap (λ x. (decide_read_at x (desk_account g d)).decided) ((refused_when wide f i).1 r))
  so i (for_visits form h e s) = ap (ending words bytes)
      (reads form h e ∙ ap (decide_end (text_in form)) (stopped_so form.schema form.queries (desk_account g d) i s))
  so i (for_answer form ts h e s l) = ap (ending words bytes)
      (reads form h e ∙ ap (decide_end (text_in form)) (ended_so form.schema form.queries (desk_account g d) ts s)) ∙ rw
      (lt-ltb bytes (length (form_lines (text_in form) ts)) l, ending, finish)

  why : (i : Refusal) → (ending words bytes) (decide_at f words (desk_account g d)).decided ≡ Defined.Refused i → RefusedAt g d f words bytes i
  unfolding finish refuse accept decide_read_at
  why i e = cases (ltb words min_words)
      (λ q. let h = ltb-true words min_words q in subst (RefusedAt g d f words bytes)
      (turned work_too_short i (sym (ap (ending words bytes) (short h)) ∙ e)) (for_work h))
      (λ q. let h = ltb-false words min_words q in read h (reading f) refl (sym (ap (ending words bytes) (enough h)) ∙ e))
    where
      over : (form : Form) → min_words ≤ words → reading f ≡ described form → (x : End)
          → (run_at form.schema form.queries (desk_account g d)).end ≡ x → (ending words bytes) (decide_end (text_in form) x) ≡ Defined.Refused i
          → RefusedAt g d f words bytes i
      over form h p (stopped j) q r = subst (RefusedAt g d f words bytes) (turned j i r)
          (for_visits form h p (stops form.schema form.queries (desk_account g d) j q))
      over form h p (all ts) q r = cases (ltb bytes (length (form_lines (text_in form) ts)))
          (λ b. let c : Defined.Refused answer_too_long ≡ Defined.Refused i = rw (b, ending, finish) at r in let same : answer_too_long ≡ i = cc in
          subst (RefusedAt g d f words bytes) same (for_answer form ts h p (ends form.schema form.queries (desk_account g d) ts q)
          (ltb-true bytes (length (form_lines (text_in form) ts)) b)))
          (λ b. let c : Defined.Accepted ≡ Defined.Refused i = rw (b, ending, finish) at r in let z : ◌≡◌ {A = ℕ} 0 1 = cc in absurd (omega arith))

      read : min_words ≤ words → (x : Reading) → reading f ≡ x → (ending words bytes) (decide_read_at x (desk_account g d)).decided ≡ Defined.Refused i
          → RefusedAt g d f words bytes i
      read h (refused j) p r = subst (RefusedAt g d f words bytes) (turned j i r) (for_file h ((refused_when wide f j).0 p))
      read h (described form) p r = over form h p (run_at form.schema form.queries (desk_account g d)).end refl r

-- ---- 17

low : All (λ c. number c.refusal ≤ 13) conditions
unfolding conditions number
low = (omega arith, (omega arith, (omega arith, (omega arith, (omega arith, (omega arith, (omega arith, (omega arith, (omega arith, tt)))))))))

first_low : (cs : List Condition) {s : SoFar} {l : Said} {i : Refusal} → All (λ c. number c.refusal ≤ 13) cs → First cs s l i → number i ≤ 13
first_low (c ∷ cs) h (here e) = h.0
first_low (c ∷ cs) h (later e r) = first_low cs h.1 r
first_low [] {s = s} {l = l} {i = i} h e = elim e [ ]

file_low : (f : List ℕ) (i : Refusal) → Refused wide f i → number i ≤ 13
unfolding number
file_low f i (too_long h) = omega arith
file_low f i (at_line h a) = first_low conditions low a.first
file_low f i (missing_query e h p n) = omega arith

stop_low : (schema : Schema) (qs : List Ast) (a : Account) (i : Refusal) → Stops schema qs a i → number i ≤ 16
unfolding number stop_at
stop_low schema (q ∷ qs) a i (Desks.here p) = cases (ltb (ceiling_in a) max_visits) (λ b. rw (b, stop_at) (omega arith)) (λ b. rw (b, stop_at) (omega arith))
stop_low schema (q ∷ qs) a i (Desks.later t p s) = stop_low schema qs (charged_to a t.visits) i s
stop_low schema [] a i h = elim h [ ]

refused_low : (g : Group) (d : ℕ) (f : List ℕ) (words bytes : ℕ) (i : Refusal) → RefusedAt g d f words bytes i → number i ≤ 16
unfolding number
refused_low g d f words bytes i (for_work h) = omega arith
refused_low g d f words bytes i (for_file h r) = omega (arith, file_low f i r)
refused_low g d f words bytes i (for_visits form h e s) = stop_low form.schema form.queries (desk_account g d) i s
refused_low g d f words bytes i (for_answer form ts h e s l) = omega arith

module _ {g : Group} {d : ℕ} {f w out w' out' : List ℕ} {r : Desked} (c : ChecksAt g d f w out w' out' r) where
  pub refused_exactly : At g d → (i : Refusal) → (result_of r.outcome ≡ Defined.Refused i) ↔ RefusedAt g d f (length w) (length out) i
  refused_exactly at i =
      let h = (c.inside at).0.result in
      (λ e. why g d f (length w) (length out) i (sym h ∙ e), λ s. h ∙ so g d f (length w) (length out) i s)

  -- 17 is told where the desk or the group is outside of the rules, and not where it is inside.
  pub outside_refused : (At g d → ⊥) → result_of r.outcome ≡ Defined.Refused outside_the_rules
  unfolding finish refuse
  outside_refused n = (c.outside n).0.result

  pub inside_not_17 : At g d → result_of r.outcome ≡ Defined.Refused outside_the_rules → ⊥
  unfolding number
  inside_not_17 at e = omega (arith, refused_low g d f (length w) (length out) outside_the_rules ((refused_exactly at outside_the_rules).0 e))

-- ---- "Correctness of a query is claimed up to this ceiling"

-- Demand 3 and Robinson's notions of every query's run up to any number of visits.
pub up_to_a_ceiling : (file : List ℕ) (f : Form) → reading file ≡ described f → (c : ℕ)
    → All (λ a. RunDemand3 f.schema a c × RunAsRobinson f.schema a c) f.queries
unfolding view_of
up_to_a_ceiling file f s c =
    all_map (λ a. Sound (view_of f a)) (λ a. RunDemand3 f.schema a c × RunAsRobinson f.schema a c) f.queries
    (λ a h. (run_demand_3 f.schema a (sound_well_formed (view_of f a) h) c, run_robinson f.schema a (sound_well_formed (view_of f a) h) c)) (sound file f s)
