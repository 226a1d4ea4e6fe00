-- The visits that a file is charged at a desk are at most its ceilings, one after the other, so every group that calls lead to is one of
-- cabinet's (`LedToGroup`); and what ends within a ceiling ends alike within that of document 01.
use mathlib.Core.List.{List, [], ◌∷◌}
use mathlib.Core.Path.{◌≡◌, refl, sym, ap, subst, ◌∙◌}
use Prim.Native.Nat.{ℕ, ◌+◌, ◌<◌, ◌≤◌}
use native.Mathlib.Omega.{arith}
use borrow.Author.Tests.{eqb-true, eqb-false, ltb-true, ltb-false}
use lib.Dec.{eqb, ltb}
use lib.ListN.{length}
use Rattle.cabinet.specs.declared.Account.{Account}
use Rattle.cabinet.specs.declared.Group.{Group}
use Rattle.cabinet.specs.declared.Desk.{Desk}
use Rattle.cabinet.specs.Cabinet.{desk, ceiling_of, charged}
use Rattle.cabinet.specs.Promises.{DeskOf}
use Rattle.cabinet.specs.Accounts.{ceiling_in, charged_to, group_in}
use Rattle.cabinet.specs.Days.{LedToGroup, Assured}
use Rattle.cabinet.specs.Days as Cabinet
use Rattle.cabinet.proofs.Days.{always, assured}
use Rattle.cabinet.proofs.Places.{length-places, get_or-places}
use Rattle.format.specs.Refusal.{Refusal, work_too_short}
use Rattle.format.specs.Syntax.{Ast}
use Rattle.format.specs.Schema.{Schema}
use Rattle.format.specs.File.{Reading, refused, described, reading}
use Rattle.meaning.specs.Check.{Typed, Checked, typed, exhausted, check}
use Rattle.meaning.specs.Diag.{Message}
use Rattle.meaning.specs.Messages.{text_in}
use Rattle.meaning.specs.Outcome.{turned_down, answered, min_words, max_visits, with_checked, run_all, decide_run, decide_read, decide}
use Rattle.format.proofs.Tests.{cases}
use Rattle.laws.proofs.Run.{more_visits_lem, more_needed, within}
use Rattle.driver.specs.At.{End, all, stopped, first, after, run_at, decide_end, decide_read_at, decide_at, desk_account}
use Rattle.driver.specs.Desks.{Stops}
use Rattle.driver.specs.Days.{Days, set_up_lem, check_at_lem, new_day, Paid, Day, charge_of, UsesAddUp, ShortOf}
use Rattle.std.specs.Prelude.{Option, Some, sum_by}
use Rattle.std.proofs.lemmas.List.Sums.{sum_by-cons}

low : (a : Account) → ceiling_in a ≤ max_visits
unfolding max_visits
low Account.Open = omega arith
low (Account.At s) = omega arith

-- ---- The groups

module _ (schema : Schema) where
  -- Charged within its ceilings, the group of a desk is one that calls lead to.
  led_run : (qs : List Ast) (s : DeskOf) → s.desk < s.group.count → LedToGroup s.group → LedToGroup (group_in (run_at schema qs (Account.At s)).account)
  unfolding run_at
  led_run [] s b l = l
  led_run (q ∷ qs) s b l = go (λ t. led_run qs t) (check (ceiling_of s.group s.desk) schema q) refl
    where
      go : ((t : DeskOf) → t.desk < t.group.count → LedToGroup t.group → LedToGroup (group_in (run_at schema qs (Account.At t)).account)) → (x : Checked)
          → check (ceiling_of s.group s.desk) schema q ≡ x
          → LedToGroup (group_in (after (Account.At s) x (λ c. run_at schema qs c)).account)
      go rest exhausted e = Cabinet.query l s.desk (ceiling_of s.group s.desk) b (omega arith)
      go rest (typed t) e =
          rest (record s { group = charged s.group s.desk t.visits }) b
          (Cabinet.query l s.desk t.visits b (within schema q (ceiling_of s.group s.desk) t e))

led_decided : (f : List ℕ) (words : ℕ) (g : Group) (d : ℕ) → d < g.count → LedToGroup g → LedToGroup (group_in (decide_at f words (desk_account g d)).account)
unfolding decide_at decide_read_at
led_decided f words g d b l = cases (ltb words min_words) (λ q. rw (q, decide_at) l) (λ q. rw (q, decide_at) (go (reading f)))
  where
    go : (x : Reading) → LedToGroup (group_in (decide_read_at x (desk_account g d)).account)
    go (refused r) = l
    go (described form) = led_run form.schema form.queries (record { group = g; desk = d }) b l

led : {g : Group} → Days g → LedToGroup g
led (set_up_lem pool shares caps s) = Cabinet.set_up_lem pool shares caps s
led (check_at_lem {g} days d f w out w' out' r c) = go (led days)
  where
    go : LedToGroup g → LedToGroup r.group
    go l = cases (ltb d g.count)
        (λ q. let b = ltb-true d g.count q in subst LedToGroup (sym (c.inside (always l, b)).1) (led_decided f (length w) g d b l))
        (λ q. subst LedToGroup (sym (c.outside (λ i. omega (arith, i.1, ltb-false d g.count q))).1) l)
led (new_day days r s) = Cabinet.new_day (led days) r s

-- "whatever the others do": of every group that calls lead to.
pub days_assured : {g : Group} → Days g → Assured g
days_assured days = assured (led days)

-- ---- The uses of a day

-- The list of the desks keeps its length, and each has used what its calls were charged.
used_so : {g : Group} {ps : List Paid} → Day g ps → (length g.desks ≡ 16) × ((d : ℕ) → d < 16 → (desk g d).used ≡ sum_by (charge_of d) ps)
used_so (Day.set_up_lem pool shares caps s) = rw s.made (length-places _ 16, λ d l. ap Desk.used (get_or-places _ 16 d l))
used_so (Day.new_day s) = rw s.rests (length-places _ 16, λ d l. ap Desk.used (get_or-places _ 16 d l))
used_so (Day.check_at_lem {g} {ps} day e f w out w' out' r c) = go (used_so day)
  where
    last : Paid
    last = record { desk = e; charge = c.pays.charge }

    go : (length g.desks ≡ 16) × ((d : ℕ) → d < 16 → (desk g d).used ≡ sum_by (charge_of d) ps)
        → (length r.group.desks ≡ 16) × ((d : ℕ) → d < 16 → (desk r.group d).used ≡ sum_by (charge_of d) (last ∷ ps))
    go h = (
      c.pays.used.long ∙ h.0,
      λ d l. cases (eqb e d)
          (λ q.
          let same = eqb-true e d q in
          let mine : charge_of d last ≡ c.pays.charge = rw (q, charge_of) in
          let its : (desk r.group e).used ≡ (desk g e).used + c.pays.charge = ap Desk.used (c.pays.used.its (omega (arith, h.0, same))) in
          let here = subst (λ i. (desk r.group i).used ≡ (desk g i).used + c.pays.charge) same its in
          omega (arith, sum_by-cons (charge_of d) last ps, mine, here, h.1 d l))
          (λ q.
          let none : charge_of d last ≡ 0 = rw (q, charge_of) in
          let stays : (desk r.group d).used ≡ (desk g d).used = ap Desk.used (c.pays.used.others d (λ k. eqb-false e d q (sym k))) in
          omega (arith, sum_by-cons (charge_of d) last ps, none, stays, h.1 d l)),
    )

pub uses_add_up : UsesAddUp
uses_add_up g ps day = (used_so day).1

-- ---- The answers

first_all : (t : Typed) (x : End) (ts : List Typed) → first t x ≡ all ts → (us : List Typed) × (x ≡ all us) × (t ∷ us ≡ ts)
first_all t (all us) ts e = let whole : t ∷ us ≡ ts = cc in (us, refl, whole)
first_all t (stopped i) ts e = let z : ◌≡◌ {A = ℕ} 0 1 = cc in absurd (omega arith)

answered_all : (text : Message → List ℕ) (x : End) (ls : List ℕ) → decide_end text x ≡ answered ls → (ts : List Typed) × (x ≡ all ts)
answered_all text (all ts) ls e = (ts, refl)
answered_all text (stopped i) ls e = let z : ◌≡◌ {A = ℕ} 0 1 = cc in absurd (omega arith)

module _ (schema : Schema) where
  -- What ran within its ceilings ran.
  ran_alike : (qs : List Ast) (a : Account) (ts : List Typed) → (run_at schema qs a).end ≡ all ts → run_all schema qs ≡ Some ts
  unfolding run_at run_all with_checked
  ran_alike [] a ts e = let same : [] ≡ ts = cc in ap {B = Option (List Typed)} Some same
  ran_alike (q ∷ qs) a ts e = go (λ b us. ran_alike qs b us) (check (ceiling_in a) schema q) refl e
    where
      go : ((b : Account) (us : List Typed) → (run_at schema qs b).end ≡ all us → run_all schema qs ≡ Some us) → (x : Checked)
          → check (ceiling_in a) schema q ≡ x
          → (after a x (λ b. run_at schema qs b)).end ≡ all ts → with_checked (check max_visits schema q) (run_all schema qs) ≡ Some ts
      go rest exhausted p r = let z : ◌≡◌ {A = ℕ} 0 1 = cc in absurd (omega arith)
      go rest (typed t) p r =
          let y = first_all t (run_at schema qs (charged_to a t.visits)).end ts r in
          ap (λ c. with_checked c (run_all schema qs)) (more_visits_lem schema q (ceiling_in a) max_visits t (low a) p) ∙ ap (with_checked (typed t))
          (rest (charged_to a t.visits) y.0 y.1)
          ∙ ap {B = Option (List Typed)} Some y.2

  -- What is stopped at a desk (`refused_exactly` of Desks.antt) needs more visits than its ceiling.
  pub stopped_short : {qs : List Ast} {a : Account} {i : Refusal} → Stops schema qs a i → ShortOf schema qs a
  stopped_short (Stops.here {q} {qs} {a} e) = ShortOf.stopped e (λ c t u. more_needed schema q (ceiling_in a) c t e u)
  stopped_short (Stops.later t e s) = ShortOf.ran t e (stopped_short s)

-- An answer given at a desk is the answer that the full check gives.
pub same_answer : (f : List ℕ) (words : ℕ) (a : Account) (ls : List ℕ) → (decide_at f words a).decided ≡ answered ls → decide f words ≡ answered ls
unfolding decide_at decide decide_read_at decide_read decide_run
same_answer f words a ls e = cases (ltb words min_words)
    (λ q. let h : turned_down work_too_short ≡ answered ls = rw (q, decide_at) at e in let z : ◌≡◌ {A = ℕ} 0 1 = cc in absurd (omega arith))
    (λ q. rw (q, decide) (go (reading f) (rw (q, decide_at) at e)))
  where
    go : (x : Reading) → (decide_read_at x a).decided ≡ answered ls → decide_read x ≡ answered ls
    go (refused i) h = let z : ◌≡◌ {A = ℕ} 0 1 = cc in absurd (omega arith)
    go (described form) h =
        let y = answered_all (text_in form) (run_at form.schema form.queries a).end ls h in
        ap (decide_run (text_in form)) (ran_alike form.schema form.queries a y.0 y.1) ∙ sym (ap (decide_end (text_in form)) y.1) ∙ h
