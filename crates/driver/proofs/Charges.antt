-- What a call at a desk is charged: the account after its queries is the desk's with each query's charge in turn.
use mathlib.Core.Bool.{Bool, true, false}
use mathlib.Core.List.{List, [], ◌∷◌}
use mathlib.Core.Path.{◌≡◌, refl, sym, ap, subst, ◌∙◌}
use Prim.Native.Nat.{ℕ, ◌+◌, ◌≤◌}
use native.Mathlib.Omega.{arith}
use borrow.Author.Tests.{ltb-true, ltb-false}
use lib.Dec.{ltb}
use lib.ListN.{length}
use Rattle.std.specs.Prelude.{sum, ◌⊎◌}
use Rattle.std.proofs.Common.{inl, inr}
use Rattle.std.proofs.lemmas.List.Sums.{sum_by-cons}
use Rattle.cabinet.specs.declared.Account.{Account}
use Rattle.cabinet.specs.declared.Group.{Group}
use Rattle.cabinet.specs.Cabinet.{ceiling_of, charged}
use Rattle.cabinet.specs.Promises.{At}
use Rattle.cabinet.specs.Accounts.{ceiling_in, charged_to, group_in}
use Rattle.cabinet.specs.Days.{UsedMore}
use Rattle.cabinet.proofs.Groups.{used_more, charged_more, charged_none}
use Rattle.format.specs.Syntax.{Ast}
use Rattle.format.specs.Schema.{Schema}
use Rattle.format.specs.Refusal.{Refusal, answer_too_long, number}
use Rattle.format.specs.File.{Form, Reading, refused, described, reading}
use Rattle.meaning.specs.Check.{Typed, Checked, typed, exhausted, check}
use Rattle.meaning.specs.Messages.{text_in}
use Rattle.meaning.specs.Answer.{form_lines}
use Rattle.meaning.specs.Outcome.{Result, Accepted, Refused, min_words, max_visits, refuse, accept, finish}
use Rattle.format.proofs.Tests.{cases}
use Rattle.driver.specs.At as At
use Rattle.driver.specs.At.{End, all, first, stop_at, RunAt, after, run_at, decide_end, decide_read_at, decide_at, desk_account}
use Rattle.driver.specs.Desks as Desks
use Rattle.driver.specs.Desks.{Stops}
use Rattle.driver.proofs.Desks.{stops}
use Rattle.driver.specs.Charges.{InTurn, over, ended, stopped, Charges, IsBeforeRuns, Pays}

-- ---- Accounts

pub charged_to_none : (a : Account) → charged_to a 0 ≡ a
charged_to_none Account.Open = refl
charged_to_none (Account.At s) = ap (λ g. Account.At (record s { group = g })) (charged_none s.group s.desk)

pub charged_to_more : (a : Account) (n more : ℕ) → charged_to (charged_to a n) more ≡ charged_to a (n + more)
charged_to_more Account.Open n more = refl
charged_to_more (Account.At s) n more = ap (λ g. Account.At (record s { group = g })) (charged_more s.group s.desk n more)

-- ---- The queries

module _ (schema : Schema) (g : Group) (d : ℕ) where
  -- what comes of queries in turn, by what each is charged
  record Ran (qs : List Ast) (n : ℕ) (x : RunAt) : Type 0 where
    charges : List ℕ
    whole : Bool
    turns : InTurn schema (desk_account g d) qs n charges whole
    account : x.account ≡ desk_account (charged g d (n + sum charges)) d
    to_the_end : (ts : List Typed) → x.end ≡ all ts → whole ≡ true

  ran : (qs : List Ast) (n : ℕ) → Ran qs n (run_at schema qs (desk_account (charged g d n) d))
  unfolding run_at
  ran [] n = record {
    charges = [];
    whole = true;
    turns = over;
    account = let none : n ≡ n + sum [] = omega arith in ap (λ m. desk_account (charged g d m) d) none;
    to_the_end = λ ts e. refl;
  }
  ran (q ∷ qs) n = go (λ m. ran qs m) (check (ceiling_of (charged g d n) d) schema q) refl
    where
      go : ((m : ℕ) → Ran qs m (run_at schema qs (desk_account (charged g d m) d))) → (x : Checked) → check (ceiling_of (charged g d n) d) schema q ≡ x
          → Ran (q ∷ qs) n (after (desk_account (charged g d n) d) x (λ b. run_at schema qs b))
      go rest exhausted e =
          let c = ceiling_of (charged g d n) d in
          let one : n + c ≡ n + sum (c ∷ []) = omega (arith, sum_by-cons (λ x. x) c []) in
          record {
            charges = c ∷ [];
            whole = false;
            turns = stopped e;
            account = ap (λ h. desk_account h d) (charged_more g d n c ∙ ap (charged g d) one);
            to_the_end = λ ts r. let z : ◌≡◌ {A = ℕ} 0 1 = cc in absurd (omega arith);
          }
      go rest (typed t) e =
          let y = rest (n + t.visits) in
          let same : run_at schema qs (desk_account (charged (charged g d n) d t.visits) d) ≡ run_at schema qs (desk_account (charged g d (n + t.visits)) d) =
          ap (λ h. run_at schema qs (desk_account h d)) (charged_more g d n t.visits) in
          let joined : n + t.visits + sum y.charges ≡ n + sum (t.visits ∷ y.charges) = omega (arith, sum_by-cons (λ x. x) t.visits y.charges) in
          record {
            charges = t.visits ∷ y.charges;
            whole = y.whole;
            turns = ended t e y.turns;
            account = ap RunAt.account same ∙ y.account ∙ ap (λ m. desk_account (charged g d m) d) joined;
            to_the_end = λ ts r. last (run_at schema qs (desk_account (charged (charged g d n) d t.visits) d)).end refl r
                (λ us p. y.to_the_end us (sym (ap RunAt.end same) ∙ p));
          }
        where
          last : (x : End) → (run_at schema qs (desk_account (charged (charged g d n) d t.visits) d)).end ≡ x → {ts : List Typed} → first t x ≡ all ts
              → {b : Bool} → ((us : List Typed) → (run_at schema qs (desk_account (charged (charged g d n) d t.visits) d)).end ≡ all us → b ≡ true) → b ≡ true
          last (all us) p r then = then us p
          last (At.stopped i) p r then = let z : ◌≡◌ {A = ℕ} 0 1 = cc in absurd (omega arith)

-- ---- The whole call

stop_number : (c : ℕ) → (number (stop_at c) ≡ 11) ⊎ (number (stop_at c) ≡ 16)
unfolding number stop_at
stop_number c = cases (ltb c max_visits) (λ b. rw (b, stop_at) (inr refl)) (λ b. rw (b, stop_at) (inl refl))

-- A query that is stopped is stopped by 11 or by 16.
stops_so : (schema : Schema) (qs : List Ast) (a : Account) (i : Refusal) → (run_at schema qs a).end ≡ At.stopped i → (number i ≡ 11) ⊎ (number i ≡ 16)
stops_so schema qs a i e = go qs a i (stops schema qs a i e)
  where
    go : (qs : List Ast) (a : Account) (i : Refusal) → Stops schema qs a i → (number i ≡ 11) ⊎ (number i ≡ 16)
    go (q ∷ qs) a i (Desks.here p) = stop_number (ceiling_in a)
    go (q ∷ qs) a i (Desks.later t p s) = go qs (charged_to a t.visits) i s
    go [] a i h = elim h [ ]

module _ (g : Group) (d : ℕ) (f : List ℕ) (words bytes : ℕ) where
  -- The group as it was, and nothing to pay.
  pub pays_nothing : (r : Result) → ((form : Form) → At g d → min_words ≤ words → reading f ≡ described form → ⊥) → Pays g d f words r g
  pays_nothing r unread = record {
    charge = 0;
    used = subst (UsedMore g d 0) (charged_none g d) (used_more g d 0);
    nothing = λ i e b. refl;
    queries = λ form i h e. absurd (unread form i h e);
  }

  -- what the queries of a form come to
  ran_form : (form : Form) → min_words ≤ words → reading f ≡ described form
      → Pays g d f words (finish (decide_end (text_in form) (run_at form.schema form.queries (desk_account g d)).end) words bytes).result
      (group_in (run_at form.schema form.queries (desk_account g d)).account)
  unfolding finish refuse accept number
  ran_form form h e = subst (λ a. Pays g d f words (finish (decide_end (text_in form) (run_at form.schema form.queries a).end) words bytes).result
      (group_in (run_at form.schema form.queries a).account)) (ap (λ g. desk_account g d) (charged_none g d)) begun
    where
      x : RunAt
      x = run_at form.schema form.queries (desk_account (charged g d 0) d)

      y : Ran form.schema g d form.queries 0 x
      y = ran form.schema g d form.queries 0

      result : Result
      result = (finish (decide_end (text_in form) x.end) words bytes).result

      -- how it ends by what is told
      told : (z : End) → x.end ≡ z → (finish (decide_end (text_in form) z) words bytes).result ≡ Accepted → y.whole ≡ true
      told (all ts) p r = y.to_the_end ts p
      told (At.stopped i) p r = let clash : ◌≡◌ {A = ℕ} 0 1 = cc in absurd (omega arith)

      long : (z : End) → x.end ≡ z → (finish (decide_end (text_in form) z) words bytes).result ≡ Refused answer_too_long → y.whole ≡ true
      long (all ts) p r = y.to_the_end ts p
      long (At.stopped i) p r = let same : i ≡ answer_too_long = cc in
          go (stops_so form.schema form.queries (desk_account (charged g d 0) d) i p) (ap number same)
        where
          go : (number i ≡ 11) ⊎ (number i ≡ 16) → number i ≡ 12 → y.whole ≡ true
          go (inl q) n = absurd (omega (arith, q, n))
          go (inr q) n = absurd (omega (arith, q, n))

      none : (z : End) → x.end ≡ z → (i : Refusal) → (finish (decide_end (text_in form) z) words bytes).result ≡ Refused i → IsBeforeRuns i → ⊥
      none (At.stopped j) p i r b = let same : j ≡ i = cc in go (stops_so form.schema form.queries (desk_account (charged g d 0) d) j p) (ap number same) b
        where
          go : (number j ≡ 11) ⊎ (number j ≡ 16) → number j ≡ number i → IsBeforeRuns i → ⊥
          go (inl q) n (inl b) = omega (arith, q, n, b)
          go (inl q) n (inr (inl b)) = omega (arith, q, n, b)
          go (inl q) n (inr (inr b)) = omega (arith, q, n, b)
          go (inr q) n (inl b) = omega (arith, q, n, b)
          go (inr q) n (inr (inl b)) = omega (arith, q, n, b)
          go (inr q) n (inr (inr b)) = omega (arith, q, n, b)
      none (all ts) p i r b = cases (ltb bytes (length (form_lines (text_in form) ts)))
          (λ q. let s : Refused answer_too_long ≡ Refused i = rw (q, finish) at r in let same : answer_too_long ≡ i = cc in go (ap number same) b)
          (λ q. let s : Accepted ≡ Refused i = rw (q, finish) at r in let clash : ◌≡◌ {A = ℕ} 0 1 = cc in omega arith)
        where
          go : 12 ≡ number i → IsBeforeRuns i → ⊥
          go n (inl b) = omega (arith, n, b)
          go n (inr (inl b)) = omega (arith, n, b)
          go n (inr (inr b)) = omega (arith, n, b)

      from_none : 0 + sum y.charges ≡ sum y.charges
      from_none = omega arith

      begun : Pays g d f words result (group_in x.account)
      begun = record {
        charge = sum y.charges;
        used = subst (UsedMore g d (sum y.charges)) (sym (ap group_in y.account ∙ ap (charged g d) from_none)) (used_more g d (sum y.charges));
        nothing = λ i r b. absurd (none x.end refl i r b);
        queries = λ form' i h' e'.
            let same : form ≡ form' = cc in
            subst (λ form. Charges form g d (sum y.charges) result) same (record {
              charges = y.charges;
              all = y.whole;
              turns = y.turns;
              sum = refl;
              accepted = λ r. told x.end refl r;
              too_long = λ r. long x.end refl r;
            });
      }

  -- What the definition decides is paid for.
  pub pays : Pays g d f words (finish (decide_at f words (desk_account g d)).decided words bytes).result (group_in (decide_at f words (desk_account g d)).account)
  unfolding decide_at decide_read_at
  pays = cases (ltb words min_words)
      (λ q. let short = ltb-true words min_words q in rw (q, decide_at) (pays_nothing _ (λ form i h e. omega (arith, short))))
      (λ q. let enough = ltb-false words min_words q in rw (q, decide_at) (read enough (reading f) refl))
    where
      read : min_words ≤ words → (x : Reading) → reading f ≡ x
          → Pays g d f words (finish (decide_read_at x (desk_account g d)).decided words bytes).result (group_in (decide_read_at x (desk_account g d)).account)
      read h (refused j) e = pays_nothing _ (λ form i h' e'. let clash : ◌≡◌ {A = ℕ} 0 1 = cc in omega arith)
      read h (described form) e = ran_form form h e
