-- What the reading and the queries' turns come to is what the definition decides, and clearing the slices makes it the definition's outcome.
use mathlib.Core.List.{List, ◌++◌}
use mathlib.Core.Path.{◌≡◌, refl, sym, ap, ◌∙◌, subst}
use Prim.Native.Nat.{ℕ, ◌-◌, ◌≤◌}
use native.Mathlib.Omega.{arith}
use lib.Dec.{ltb}
use lib.ListN.{length, take, replicate}
use lib.Seq.{take_at}
use borrow.Author.Tests.{ltb-true, ltb-false, le-ltb}
use Rattle.format.specs.Frame.{Edition, wide}
use Rattle.format.specs.Refusal as Meaning
use Rattle.format.specs.File.{Form, Reading, refused, described, reading_of, max_file}
use Rattle.meaning.specs.Outcome as Defined
use Rattle.meaning.specs.Outcome.{Decided, turned_down, answered, min_words, decide, refuse, accept, finish, outcome}
use Rattle.format.proofs.Tests.{cases}
use Rattle.format.proofs.Content.{says_exactly}
use Rattle.reading.specs.Promises.{refusal, ReadingEnds, reading_in, ReadsFile}
use Rattle.reading.specs.declared.Refusal.{Refusal}
use Rattle.driver.specs.Promises.{CallEnds, RunsQueries, RunsFile, Clears, Finishes, ChecksFile, ChecksAt}
use Rattle.driver.specs.At.{decide_read_at, decide_at, desk_account}
use Rattle.driver.specs.declared.Settled.{Settled}
use Rattle.driver.specs.declared.Desked.{Desked}
use Rattle.cabinet.specs.declared.Account.{Account}
use Rattle.cabinet.specs.declared.Group.{Group}
use Rattle.cabinet.specs.Accounts.{group_in}
use Rattle.cabinet.specs.Promises.{At}
use Rattle.driver.proofs.Opening.{open_decides}
use Rattle.driver.proofs.Charges.{pays, pays_nothing}
use Rattle.std.specs.Prelude.{Err, Ok, Result, ℕ}

-- ---- Reading

pub enough_words : (ed : Edition) (f : List ℕ) (words : ℕ) (d : Form) → reading_in ed f words ≡ described d → reading_of ed f ≡ described d
unfolding reading_in
enough_words ed f words d e = cases (ltb words min_words)
    (λ q. let h : refused Meaning.work_too_short ≡ described d = rw (q, reading_in) at e in let z : ◌≡◌ {A = ℕ} 0 1 = cc in absurd (omega arith))
    (λ q. rw (q, reading_in) at e)

-- A file that was not read is turned down, by whatever goes on with a reading.
pub refused_told : (ed : Edition) (k : Reading → Decided) → ((i : Meaning.Refusal) → k (refused i) ≡ turned_down i)
    → (f w w' buf : List ℕ) (r : Result (Unit {0}) Refusal) (e : Refusal) → ReadsFile ed f w w' r → r ≡ Err e
    → CallEnds buf buf (Err e) (k (reading_in ed f (length w)))
unfolding ReadingEnds CallEnds
refused_told ed k down f w w' buf r e h q = go (reading_in ed f (length w)) h.ends
  where
    go : (x : Reading) → ReadingEnds ed f w' r x → CallEnds buf buf (Err e) (k x)
    go (refused i) g = let p = g.1 in let same : g.0 ≡ e = cc in subst (CallEnds buf buf (Err e)) (sym (down i))
        (e, refl, sym (ap refusal same) ∙ g.2)
    go (described d) g = let p = g.0 in let z : ◌≡◌ {A = ℕ} 0 1 = cc in absurd (omega arith)

-- What is decided, by what the reading comes to in so many words.
settled_by : (f : List ℕ) (words : ℕ) (a : Account) → decide_at f words a ≡ decide_read_at (reading_in wide f words) a
unfolding decide_at reading_in decide_read_at
settled_by f words a = cases (ltb words min_words) (λ q. rw (q, decide_at, reading_in)) (λ q. rw (q, decide_at, reading_in))

module _ (f w w' buf : List ℕ) (a : Account) (r : Result (Unit {0}) Refusal) (e : Refusal) (h : ReadsFile wide f w w' r) (q : r ≡ Err e) where
  unread : CallEnds buf buf (Err e) (decide_at f (length w) a).decided × (a ≡ (decide_at f (length w) a).account)
  unfolding ReadingEnds CallEnds decide_read_at
  unread = subst (λ x. CallEnds buf buf (Err e) x.decided × (a ≡ x.account)) (sym (settled_by f (length w) a))
      (go (reading_in wide f (length w)) h.ends)
    where
      go : (x : Reading) → ReadingEnds wide f w' r x → CallEnds buf buf (Err e) (decide_read_at x a).decided × (a ≡ (decide_read_at x a).account)
      go (refused i) g = let p = g.1 in let same : e ≡ g.0 = cc in ((e, refl, ap refusal same ∙ g.2), refl)
      go (described d) g = let p = g.0 in let z : ◌≡◌ {A = ℕ} 0 1 = cc in absurd (omega arith)

  -- The reading's refusal is the one decided, and nothing is charged.
  pub not_read : RunsFile f w buf a w' buf (record { account = a; outcome = Err e })
  not_read = record { told = unread.0; account = unread.1; words = h.long; bytes = refl }

-- A file that was read is short enough.
pub read_small : (f w w' : List ℕ) (r : Result (Unit {0}) Refusal) → ReadsFile wide f w w' r → r ≡ Ok tt → length f ≤ 65536
unfolding ReadingEnds max_file
read_small f w w' r h q = go (reading_in wide f (length w)) refl h.ends
  where
    go : (x : Reading) → reading_in wide f (length w) ≡ x → ReadingEnds wide f w' r x → length f ≤ 65536
    go (refused i) e g = let p = g.1 in let z : ◌≡◌ {A = ℕ} 0 1 = cc in absurd (omega arith)
    go (described d) e g = ((says_exactly wide f d).0 (enough_words wide f (length w) d e)).size

module _ (f w w₁ w' buf buf' : List ℕ) (a : Account) (r : Result (Unit {0}) Refusal) (o : Settled) (h : ReadsFile wide f w w₁ r) (q : r ≡ Ok tt)
    (runs : RunsQueries f w₁ buf a buf' o) where
  ran : CallEnds buf buf' o.outcome (decide_at f (length w) a).decided × (o.account ≡ (decide_at f (length w) a).account)
  unfolding ReadingEnds decide_read_at min_words
  ran = subst (λ x. CallEnds buf buf' o.outcome x.decided × (o.account ≡ x.account)) (sym (settled_by f (length w) a))
      (go (reading_in wide f (length w)) refl h.ends)
    where
      go : (x : Reading) → reading_in wide f (length w) ≡ x → ReadingEnds wide f w₁ r x
          → CallEnds buf buf' o.outcome (decide_read_at x a).decided × (o.account ≡ (decide_read_at x a).account)
      go (refused i) e g = let p = g.1 in let z : ◌≡◌ {A = ℕ} 0 1 = cc in absurd (omega arith)
      go (described d) e g = runs.told g.2.0 d (enough_words wide f (length w) d e) g.1 g.2.1

  pub was_read : length w' ≡ length w₁ → length buf' ≡ length buf → RunsFile f w buf a w' buf' o
  was_read l b = record { told = ran.0; account = ran.1; words = l ∙ h.long; bytes = b }

-- ---- Clearing

-- What is decided of a file that is accepted: an answer that fits and stands at the start.
record Stood (buf buf₁ : List ℕ) (n : ℕ) (x : Decided) : Type 0 where
  text : List ℕ
  is : x ≡ answered text
  long : n ≡ length text
  fits : length text ≤ length buf
  there : take n buf₁ ≡ text

module _ (buf buf₁ : List ℕ) (r : Result ℕ Refusal) where
  stood : (n : ℕ) → r ≡ Ok n → (x : Decided) → CallEnds buf buf₁ r x → Stood buf buf₁ n x
  unfolding CallEnds
  stood n q (turned_down i) t = let p = t.1 in let z : ◌≡◌ {A = ℕ} 0 1 = cc in absurd (omega arith)
  stood n q (answered ls) t = cases (ltb (length buf) (length ls))
      (λ b. let p = t.1 (ltb-true (length buf) (length ls) b) in let z : ◌≡◌ {A = ℕ} 0 1 = cc in absurd (omega arith))
      (λ b. let p = t.0 (ltb-false (length buf) (length ls) b) in
      let e = p.0 in
      let m : n ≡ length ls = cc in
      record { text = ls; is = refl; long = m; fits = ltb-false (length buf) (length ls) b; there = rw m p.1 })

  turned_down_lem : (e : Refusal) → r ≡ Err e → (x : Decided) → CallEnds buf buf₁ r x → (words : ℕ)
      → finish x words (length buf) ≡ refuse (refusal e) words (length buf)
  unfolding CallEnds finish
  turned_down_lem e q (turned_down i) t words = let p = t.1 in let same : e ≡ t.0 = cc in ap (λ j. refuse j words (length buf))
      (sym t.2 ∙ sym (ap refusal same))
  turned_down_lem e q (answered ls) t words = cases (ltb (length buf) (length ls))
      (λ b. let p = t.1 (ltb-true (length buf) (length ls) b) in let same : Refusal.AnswerTooLong ≡ e = cc in rw (b, finish)
      (ap (λ x. refuse (refusal x) words (length buf)) same))
      (λ b. let p = (t.0 (ltb-false (length buf) (length ls) b)).0 in let z : ◌≡◌ {A = ℕ} 0 1 = cc in absurd (omega arith))

module _ {x : Decided} {w buf w₁ buf₁ w' buf' : List ℕ} (words : length w₁ ≡ length w) (bytes : length buf₁ ≡ length buf) where
  refused_cleared : (e : Refusal) → CallEnds buf buf₁ (Err e) x → Clears (Err e) w₁ buf₁ w' buf'
      → Finishes x w buf w' buf' (Err e)
  unfolding refuse
  refused_cleared e t c =
      let is = turned_down_lem buf buf₁ (Err e) e refl x t (length w) in
      let n : length buf₁ - 0 ≡ length buf = omega arith in
      record {
        result = sym (ap Defined.Outcome.result is);
        work = c.words ∙ ap (λ m. replicate m 0) words ∙ sym (ap Defined.Outcome.work is);
        answer = c.bytes ∙ ap (λ m. replicate m 0) n ∙ sym (ap Defined.Outcome.answer is);
        ends = λ m p. let z : ◌≡◌ {A = ℕ} 0 1 = cc in absurd (omega arith);
      }

  accepted_cleared : (n : ℕ) → CallEnds buf buf₁ (Ok n) x → Clears (Ok n) w₁ buf₁ w' buf'
      → Finishes x w buf w' buf' (Ok n)
  unfolding finish accept
  accepted_cleared n t c =
      let y = stood buf buf₁ (Ok n) n refl x t in
      let is : finish x (length w) (length buf) ≡ accept y.text (length w) (length buf) =
      ap (λ d. finish d (length w) (length buf)) y.is ∙ rw (le-ltb (length buf) (length y.text) y.fits, finish) in
      let rest : length buf₁ - n ≡ length buf - length y.text = omega (arith, y.long) in
      let all : buf' ≡ y.text ++ replicate (length buf - length y.text) 0 =
      c.bytes ∙ ap (λ l. l ++ replicate (length buf₁ - n) 0) y.there ∙ ap (λ m. y.text ++ replicate m 0) rest in
      record {
        result = sym (ap Defined.Outcome.result is);
        work = c.words ∙ ap (λ m. replicate m 0) words ∙ sym (ap Defined.Outcome.work is);
        answer = all ∙ sym (ap Defined.Outcome.answer is);
        ends = λ m p. let same : m ≡ n = cc in
            let long : length y.text ≡ m = omega (arith, same, y.long) in (
              omega (arith, long, y.fits),
              y.is ∙ ap answered
                  (sym (ap (take m) all ∙ take_at y.text (replicate (length buf - length y.text) 0) m long)),
            );
      }

  pub cleared : (r : Result ℕ Refusal) → CallEnds buf buf₁ r x → Clears r w₁ buf₁ w' buf' → Finishes x w buf w' buf' r
  cleared (Ok n) t c = accepted_cleared n t c
  cleared (Err e) t c = refused_cleared e t c

-- ---- The calls

-- Without a desk it is the call of document 01.
pub checks_file : {f w buf w₁ buf₁ w' buf' : List ℕ} {s : Settled} → RunsFile f w buf Account.Open w₁ buf₁ s
    → Clears s.outcome w₁ buf₁ w' buf' → ChecksFile f w buf w' buf' s.outcome
unfolding outcome
checks_file {f} {w} {buf} {w' = w'} {buf' = buf'} {s = s} h c =
    let y : Finishes (decide f (length w)) w buf w' buf' s.outcome = cleared h.words h.bytes s.outcome
    (subst (CallEnds _ _ s.outcome) (open_decides f (length w)) h.told) c in
    record { result = y.result; work = y.work; answer = y.answer; ends = y.ends }

pub checks_at : {g : Group} {d : ℕ} {f w buf w₁ buf₁ w' buf' : List ℕ} {s : Settled} {r : Desked} → At g d → RunsFile f w buf (desk_account g d) w₁ buf₁ s
    → Clears s.outcome w₁ buf₁ w' buf' → r ≡ record { group = group_in s.account; outcome = s.outcome } → ChecksAt g d f w buf w' buf' r
checks_at {g} {d} {f} {w} {buf} {s = s} i h c e =
    let y = cleared h.words h.bytes s.outcome h.told c in
    rw e (record {
      outside = λ o. absurd (o i);
      inside = λ _. (y, ap group_in h.account);
      pays = rw (y.result, ap group_in h.account) (pays g d f (length w) (length buf));
    })

pub checks_none : {g : Group} {d : ℕ} {f w buf w' buf' : List ℕ} {r : Desked} → (At g d → ⊥) → Clears (Err Refusal.OutsideTheRules) w buf w' buf'
    → r ≡ record { group = g; outcome = Err Refusal.OutsideTheRules } → ChecksAt g d f w buf w' buf' r
unfolding CallEnds
checks_none o c e = rw e (record {
  outside = λ _. (cleared refl refl (Err Refusal.OutsideTheRules) (Refusal.OutsideTheRules, refl, refl) c, refl);
  inside = λ i. absurd (o i);
  pays = pays_nothing _ _ _ _ 0 _ (λ form i h p. o i);
})
