-- The queries one after the other: those that had their turn stand on the page, and the others lie ahead.
use mathlib.Core.Bool.{Bool, true, false}
use mathlib.Core.List.{List, [], ◌∷◌, ◌++◌, append-nil, append_assoc}
use mathlib.Core.Path.{◌≡◌, refl, sym, ap, subst, ◌∙◌}
use Prim.Native.Nat.{ℕ, suc, ◌+◌, ◌≤◌, ◌<◌}
use native.Mathlib.Omega.{arith}
use lib.Dec.{ltb}
use lib.ListN.{length, length-append}
use borrow.Author.Tests.{lt-ltb}
use Rattle.cells.specs.Stands.{Rows}
use Rattle.format.specs.Syntax.{Ast}
use Rattle.format.specs.File.{Form, view_of, described, reading, max_file}
use Rattle.format.specs.All.{All}
use Rattle.format.specs.Sound.{Sound}
use Rattle.meaning.specs.Check.{Typed, Checked, typed, exhausted, check}
use Rattle.meaning.specs.Diag.{Message}
use Rattle.meaning.specs.Messages.{text_in}
use Rattle.format.specs.Bytes.{bytes₂, hex_line}
use Rattle.meaning.specs.Answer.{answer_lines, numbered, form_lines}
use Rattle.meaning.specs.Outcome.{answered, min_words}
use Rattle.format.proofs.Sound.{sound}
use Rattle.tree.specs.Stands.{SchemaStands}
use Rattle.format.specs.Refusal as Meaning
use Rattle.reading.specs.Promises.{refusal}
use Rattle.reading.specs.declared.Refusal as Refusal
use Rattle.reading.specs.declared.Refusal.TheVariants as Variants
use Rattle.cabinet.specs.declared.Account.{Account}
use Rattle.cabinet.specs.Accounts.{ceiling_in, charged_to}
use Rattle.driver.proofs.Turning.{triple_parts}
use Rattle.driver.specs.At.{End, all, stopped, stop_at, first, RunAt, after, run_at, decide_end}
use Rattle.loading.specs.Promises.{Ahead}
use Rattle.loading.proofs.Lines.{query_ahead, all_ahead}
use Rattle.driver.specs.Turns.{head_line, several, Follows, Turned, Turns, Continues}
use Rattle.driver.proofs.Continuing.{continues_none, continues_to, continues_as, continues_then, after_full, whole_there, whole_over}
use Rattle.driver.specs.Promises.{CallEnds, RunsQueries}
use Rattle.driver.specs.Charges.{InTurn, over, ended}
use Rattle.driver.specs.Spending.{turn_visits, SpendsOn, SpendsOnQueries}
use Rattle.driver.proofs.Charges.{charged_to_none, charged_to_more}
use Rattle.unify.specs.declared.Purse.{Purse}
use Rattle.unify.specs.Purses.{spent}
use Rattle.std.proofs.lemmas.List.Sums.{sum_by-cons}
use Rattle.std.specs.Prelude.{Err, None, Ok, Option, Result, Some, ℕ, ok_or, sum}
use Rattle.reading.specs.declared.Refusal.{Refusal}

-- ---- The lines of queries, from number k on

module _ (text : Message → List ℕ) where
  unfoldable lines_of : Bool → ℕ → List Typed → List ℕ
  lines_of m k [] = []
  lines_of m k (t ∷ ts) = (head_line m k ++ answer_lines text t) ++ lines_of m (suc k) ts

  lines_snoc : (m : Bool) (k : ℕ) (ts : List Typed) (t : Typed)
      → lines_of m k (ts ++ t ∷ []) ≡ lines_of m k ts ++ (head_line m (k + length ts) ++ answer_lines text t)
  unfolding lines_of
  lines_snoc m k [] t = let none-on : k ≡ k + 0 = omega arith in append-nil (head_line m k ++ answer_lines text t) ∙ ap
      (λ i. head_line m i ++ answer_lines text t) none-on
  lines_snoc m k (u ∷ ts) t =
      let on : suc k + length ts ≡ k + suc (length ts) = omega arith in
      ap (λ l. (head_line m k ++ answer_lines text u) ++ l)
      (lines_snoc m (suc k) ts t ∙ ap (λ i. lines_of m (suc k) ts ++ (head_line m i ++ answer_lines text t)) on)
      ∙ sym (append_assoc (head_line m k ++ answer_lines text u) (lines_of m (suc k) ts) (head_line m (k + suc (length ts)) ++ answer_lines text t))

  lines_numbered : (k : ℕ) (ts : List Typed) → numbered text k ts ≡ lines_of true k ts
  unfolding numbered lines_of
  lines_numbered k [] = refl
  lines_numbered k (t ∷ ts) =
      ap (λ l. hex_line (0x0b ∷ bytes₂ k) ++ (answer_lines text t ++ l)) (lines_numbered (suc k) ts)
      ∙ sym (append_assoc (hex_line (0x0b ∷ bytes₂ k)) (answer_lines text t) (lines_of true (suc k) ts))

  form_lines_lem : (ts : List Typed) → form_lines text ts ≡ lines_of (ltb 1 (length ts)) 0 ts
  unfolding form_lines lines_of
  form_lines_lem [] = refl
  form_lines_lem (t ∷ []) = sym (append-nil (answer_lines text t))
  form_lines_lem (t ∷ u ∷ ts) = lines_numbered 0 (t ∷ u ∷ ts) ∙ ap (λ m. lines_of m 0 (t ∷ u ∷ ts)) (sym (lt-ltb 1 (length (t ∷ u ∷ ts)) (omega arith)))

-- There are several, seen from each of them.
several_whole : (before : List Ast) (a : Ast) (qs : List Ast) → several (length before) qs ≡ ltb 1 (length (before ++ a ∷ qs))
several_whole [] a [] = refl
several_whole [] a (b ∷ qs) = sym (lt-ltb 1 (length (a ∷ b ∷ qs)) (omega arith))
several_whole (x ∷ before) a qs = sym (lt-ltb 1 (length ((x ∷ before) ++ a ∷ qs)) (omega (arith, length-append (x ∷ before) (a ∷ qs))))

-- ---- What ran, before what is left

unfoldable firsts : List Typed → End → End
firsts [] e = e
firsts (t ∷ ts) e = first t (firsts ts e)

firsts_snoc : (ts : List Typed) (t : Typed) (e : End) → firsts (ts ++ t ∷ []) e ≡ firsts ts (first t e)
unfolding firsts
firsts_snoc [] t e = refl
firsts_snoc (u ∷ ts) t e = ap (first u) (firsts_snoc ts t e)

firsts_all : (ts : List Typed) → firsts ts (all []) ≡ all ts
unfolding firsts
firsts_all [] = refl
firsts_all (t ∷ ts) = ap (first t) (firsts_all ts)

firsts_stopped : (ts : List Typed) (i : Meaning.Refusal) → firsts ts (stopped i) ≡ stopped i
unfolding firsts
firsts_stopped [] i = refl
firsts_stopped (t ∷ ts) i = ap (first t) (firsts_stopped ts i)

unfoldable resumed : List Typed → RunAt → RunAt
resumed ts x = record { account = x.account; end = firsts ts x.end }

-- ---- Between two turns

-- The visits of all queries, by those of the ones that are left and how many were made before.
record WithFirst (form : Form) (a : Account) (made : ℕ) (left : List ℕ) (all : Bool) : Type 0 where
  visits : List ℕ
  turns : InTurn form.schema a form.queries 0 visits all
  sum : sum visits ≡ made + sum left

record Telling (f : List ℕ) (form : Form) (a₀ : Account) (w out₀ out : List ℕ) (at k : ℕ) (page : Option ℕ) (a : Account) (p₀ p : Purse) : Type 0 where
  before : List Ast
  left : List Ast
  ts : List Typed
  are : before ++ left ≡ form.queries
  count : k ≡ length before
  ran : length ts ≡ length before
  runs : run_at form.schema form.queries a₀ ≡ resumed ts (run_at form.schema left a)
  ahead : Ahead f at left
  sound : All (λ a. Sound (view_of form a)) left
  rows : Rows
  stands : SchemaStands f w rows form.names form.schema
  written : Continues out₀ 0 (lines_of (text_in form) (ltb 1 (length form.queries)) 0 ts) out page
  made : ℕ
  charged : a ≡ charged_to a₀ made
  turned : (visits : List ℕ) (all : Bool) → InTurn form.schema a₀ left made visits all → WithFirst form a₀ made visits all
  within : spent p ≤ spent p₀ + made

pub record Midway (f : List ℕ) (a₀ : Account) (w₀ out₀ w out : List ℕ) (at k : ℕ) (page : Option ℕ) (a : Account) (p₀ p : Purse) : Type 0 where
  pub words : length w ≡ length w₀
  pub few : k ≤ at
  pub within : at ≤ length f
  pub small : length f ≤ 65536
  is : (T : Rows) (form : Form) → reading f ≡ described form → min_words ≤ length w₀ → SchemaStands f w₀ T form.names form.schema
      → Telling f form a₀ w out₀ out at k page a p₀ p

pub midway_start : (f w out : List ℕ) (a : Account) (p : Purse) → length f ≤ 65536 → Midway f a w out w out 0 0 (Some 0) a p p
unfolding lines_of max_file resumed firsts
midway_start f w out a p small = record {
  words = refl;
  few = omega arith;
  within = omega arith;
  small = small;
  is = λ T form e l S. record {
    before = [];
    left = form.queries;
    ts = [];
    are = refl;
    count = refl;
    ran = refl;
    runs = refl;
    ahead = all_ahead f form small e;
    sound = sound f form e;
    rows = T;
    stands = S;
    written = continues_none out 0 (omega arith);
    made = 0;
    charged = sym (charged_to_none a);
    turned = λ visits all t. record { visits = visits; turns = t; sum = omega arith };
    within = omega arith;
  };
}

-- The page goes on from wherever it stands.
goes_on : {out₀ a out : List ℕ} {page : Option ℕ} {b out' : List ℕ} {r : Option ℕ} → Continues out₀ 0 a out page → Follows out page b out' r
    → Continues out₀ 0 (a ++ b) out' r
goes_on {out₀} {a} {out} {page} {b} {out'} {r} f g = go page refl
  where
    go : (p : Option ℕ) → page ≡ p → Continues out₀ 0 (a ++ b) out' r
    go (Some n) e = continues_then f e (g.1 n e (omega (arith, (continues_to f e).1, f.long)))
    go None e = subst (Continues out₀ 0 (a ++ b) out') (sym (g.2 e)) (after_full f e b out' (g.0 ∙ f.long))

module _ {f : List ℕ} {a₀ : Account} {w₀ out₀ w out : List ℕ} {at k : ℕ} {page : Option ℕ} {acc : Account} {p₀ p : Purse}
    (m : Midway f a₀ w₀ out₀ w out at k page acc p₀ p) where
  -- ---- A turn
  module _ (here : at < length f) {ceiling : ℕ} (its : ceiling ≡ ceiling_in acc) {w' out' : List ℕ} {r : Option (ℕ × Option ℕ × ℕ)}
      (given : Turns f at k ceiling w out page w' out' r)
      (long : length w' ≡ length w) where
    t : Turns f at k (ceiling_in acc) w out page w' out' r
    t = subst (λ n. Turns f at k n w out page w' out' r) its given

    module _ (form : Form) (enough : min_words ≤ length w₀) (x : Telling f form a₀ w out₀ out at k page acc p₀ p) where
      -- the query whose turn it is
      record Next : Type 0 where
        a : Ast
        qs : List Ast
        all : x.before ++ a ∷ qs ≡ form.queries
        runs : run_at form.schema form.queries a₀ ≡ resumed x.ts (run_at form.schema (a ∷ qs) acc)
        later : All (λ a. Sound (view_of form a)) qs
        in_turn : (visits : List ℕ) (all : Bool) → InTurn form.schema a₀ (a ∷ qs) x.made visits all → WithFirst form a₀ x.made visits all
        turned : Turned f k out page w' out' r (view_of form a) qs (check (ceiling_in acc) form.schema a)

      next_one : Next
      unfolding view_of
      next_one = go x.left x.are x.runs x.ahead x.sound x.turned
        where
          go : (left : List Ast) → x.before ++ left ≡ form.queries → run_at form.schema form.queries a₀ ≡ resumed x.ts (run_at form.schema left acc)
              → Ahead f at left → All (λ a. Sound (view_of form a)) left
              → ((visits : List ℕ) (all : Bool) → InTurn form.schema a₀ left x.made visits all → WithFirst form a₀ x.made visits all) → Next
          go [] e g A s i = absurd (omega (arith, A.ended refl))
          go (a ∷ qs) e g A s i = record {
            a = a;
            qs = qs;
            all = e;
            runs = g;
            later = s.1;
            in_turn = i;
            turned = t.is x.rows (view_of form a) qs s.0 (omega (arith, m.words)) x.stands A;
          }

      -- it ran to its end, and its lines follow
      -- Its run, by what the call has charged before it.
      from_the_start : {c : Checked} → check (ceiling_in acc) form.schema next_one.a ≡ c → check (ceiling_in (charged_to a₀ x.made)) form.schema next_one.a ≡ c
      from_the_start {c} e = subst (λ b. check (ceiling_in b) form.schema next_one.a ≡ c) x.charged e

      one_told : {p' : Purse} → spent p' ≤ spent p + turn_visits ceiling r → (next : ℕ) (page' : Option ℕ) (v : ℕ) → r ≡ Some (next, page', v)
          → Telling f form a₀ w' out₀ out' next (k + 1) page' (charged_to acc v) p₀ p'
      unfolding Turned view_of run_at resumed
      one_told {p'} pays next page' v e = ends (check (ceiling_in acc) form.schema next_one.a) refl next_one.turned
        where
          y : Next
          y = next_one

          m₀ : Bool
          m₀ = ltb 1 (length form.queries)

          number_is : head_line (several k y.qs) k ≡ head_line m₀ (0 + length x.ts)
          number_is =
              let number : k ≡ 0 + length x.ts = omega (arith, x.count, x.ran) in
              let all : several k y.qs ≡ m₀ = ap (λ i. several i y.qs) x.count ∙ several_whole x.before y.a y.qs ∙ ap
              (λ l. ltb 1 (length l)) y.all in
              ap (λ b. head_line b k) all ∙ ap (head_line m₀) number

          ends : (c : Checked) → check (ceiling_in acc) form.schema y.a ≡ c → Turned f k out page w' out' r (view_of form y.a) y.qs c
              → Telling f form a₀ w' out₀ out' next (k + 1) page' (charged_to acc v) p₀ p'
          ends exhausted q z = let clash : ◌≡◌ {A = ℕ} 0 1 = cc in absurd (omega arith)
          ends (typed u) q z =
              let same : Some (z.0, z.1, u.visits) ≡ Some (next, page', v) = sym z.2 ∙ e in
              let place : z.0 ≡ next = (triple_parts same).0 in
              let to : z.1 ≡ page' = (triple_parts same).1 in
              let made : u.visits ≡ v = (triple_parts same).2 in
              let rest : RunAt = run_at form.schema y.qs (charged_to acc u.visits) in
              let went : run_at form.schema (y.a ∷ y.qs) acc ≡ after acc (typed u) (λ b. run_at form.schema y.qs b) = ap
              (λ c. after acc c (λ b. run_at form.schema y.qs b)) q in
              let joined : resumed (x.ts ++ u ∷ []) rest ≡ resumed x.ts (after acc (typed u) (λ b. run_at form.schema y.qs b)) =
              ap {B = RunAt} (λ e. record { account = rest.account; end = e }) (firsts_snoc x.ts u rest.end) in
              let follows : Follows out page (head_line m₀ (0 + length x.ts) ++ answer_lines (text_in form) u) out' z.1 = subst
              (λ l. Follows out page (l ++ answer_lines (text_in form) u) out' z.1) number_is z.5 in
              record {
                before = x.before ++ y.a ∷ [];
                left = y.qs;
                ts = x.ts ++ u ∷ [];
                are = append_assoc x.before (y.a ∷ []) y.qs ∙ y.all;
                count = omega (arith, x.count, length-append x.before (y.a ∷ []));
                ran = omega (arith, x.ran, length-append x.before (y.a ∷ []), length-append x.ts (u ∷ []));
                runs = y.runs ∙ ap (resumed x.ts) went ∙ sym joined ∙ ap
                    (λ n. resumed (x.ts ++ u ∷ []) (run_at form.schema y.qs (charged_to acc n))) made;
                ahead = subst (λ i. Ahead f i y.qs) place z.3;
                sound = y.later;
                rows = z.4.0;
                stands = z.4.1;
                written = subst (Continues out₀ 0 (lines_of (text_in form) m₀ 0 (x.ts ++ u ∷ [])) out') to
                    (continues_as (sym (lines_snoc (text_in form) m₀ 0 x.ts u)) (goes_on x.written follows));
                made = x.made + u.visits;
                charged = ap (λ b. charged_to b v) x.charged ∙ charged_to_more a₀ x.made v ∙ ap (λ n. charged_to a₀ (x.made + n)) (sym made);
                turned = λ visits all t.
                    let whole = y.in_turn (u.visits ∷ visits) all (ended u (from_the_start q) t) in
                    record { visits = whole.visits; turns = whole.turns; sum = omega (arith, whole.sum, sum_by-cons (λ n. n) u.visits visits) };
                within = let paid : spent p' ≤ spent p + v = rw e at pays in omega (arith, paid, x.within, made);
              }

      one_out : r ≡ None → run_at form.schema form.queries a₀ ≡ record
          { account = charged_to acc (ceiling_in acc); end = stopped (stop_at (ceiling_in acc)) }
      unfolding Turned run_at resumed
      one_out e = ends (check (ceiling_in acc) form.schema next_one.a) refl next_one.turned
        where
          ends : (c : Checked) → check (ceiling_in acc) form.schema next_one.a ≡ c
              → Turned f k out page w' out' r (view_of form next_one.a) next_one.qs c
              → run_at form.schema form.queries a₀ ≡ record { account = charged_to acc (ceiling_in acc); end = stopped (stop_at (ceiling_in acc)) }
          ends exhausted q z =
              next_one.runs ∙ ap (λ c. resumed x.ts (after acc c (λ b. run_at form.schema next_one.qs b))) q
              ∙ ap {B = RunAt} (λ e. record { account = charged_to acc (ceiling_in acc); end = e }) (firsts_stopped x.ts (stop_at (ceiling_in acc)))
          ends (typed u) q z = let same : Some (z.0, z.1, u.visits) ≡ None = sym z.2 ∙ e in let clash : ◌≡◌ {A = ℕ} 0 1 = cc in absurd
              (omega arith)

      out_spends : {p' : Purse} → spent p' ≤ spent p + turn_visits ceiling r → r ≡ None → SpendsOn form.schema form.queries a₀ p₀ p'
      unfolding Turned
      out_spends {p'} pays e = ends (check (ceiling_in acc) form.schema next_one.a) refl next_one.turned
        where
          ends : (c : Checked) → check (ceiling_in acc) form.schema next_one.a ≡ c
              → Turned f k out page w' out' r (view_of form next_one.a) next_one.qs c → SpendsOn form.schema form.queries a₀ p₀ p'
          ends exhausted q z =
              let last = ceiling_in (charged_to a₀ x.made) in
              let whole = next_one.in_turn (last ∷ []) false (InTurn.stopped (from_the_start q)) in
              let paid : spent p' ≤ spent p + ceiling = rw e at pays in
              let same : ceiling ≡ last = its ∙ ap ceiling_in x.charged in
              record {
                visits = whole.visits;
                all = false;
                turns = whole.turns;
                spent = omega (arith, paid, same, x.within, whole.sum, sum_by-cons (λ n. n) last []);
              }
          ends (typed u) q z = let same : Some (z.0, z.1, u.visits) ≡ None = sym z.2 ∙ e in let clash : ◌≡◌ {A = ℕ} 0 1 = cc in absurd
              (omega arith)

    pub spends_out : {p' : Purse} → spent p' ≤ spent p + turn_visits ceiling r → r ≡ None → SpendsOnQueries f w₀ a₀ p₀ p'
    spends_out pays o = λ T form q l S. out_spends form l (m.is T form q l S) pays o

    pub midway_on : {p' : Purse} → spent p' ≤ spent p + turn_visits ceiling r → (next : ℕ) (page' : Option ℕ) (v : ℕ) → r ≡ Some (next, page', v)
        → {acc' : Account} → acc' ≡ charged_to acc v
        → Midway f a₀ w₀ out₀ w' out' next (k + 1) page' acc' p₀ p'
    midway_on {p'} pays next page' v e paid =
        let on = t.onward here next page' v e in
        subst (λ b. Midway f a₀ w₀ out₀ w' out' next (k + 1) page' b p₀ p') (sym paid) (record {
          words = long ∙ m.words;
          few = omega (arith, m.few, on.0);
          within = on.1;
          small = m.small;
          is = λ T form q l S. one_told form l (m.is T form q l S) pays next page' v e;
        })

    pub midway_out : r ≡ None → {last : Account} → last ≡ charged_to acc ceiling → {e : Refusal.Refusal} → refusal e ≡ stop_at ceiling
        → RunsQueries f w₀ out₀ a₀ out' (record { account = last; outcome = Err e })
    unfolding CallEnds
    midway_out o {last} paid {e} i = record {
      told = λ T form q l S. let y = one_out form l (m.is T form q l S) o in (
        subst (λ x. CallEnds out₀ out' (Err e) (decide_end (text_in form) x.end)) (sym y) (e, refl, i ∙ ap stop_at its),
        paid ∙ ap (charged_to acc) its ∙ sym (ap RunAt.account y),
      );
    }

  -- ---- No query is left
  module _ (end : length f ≤ at) where
    -- what is decided stands on the page
    at_end_lem : (T : Rows) (form : Form) → reading f ≡ described form → min_words ≤ length w₀ → SchemaStands f w₀ T form.names form.schema
        → (ts : List Typed) × (run_at form.schema form.queries a₀ ≡ record { account = acc; end = all ts }) × Continues out₀ 0
        (form_lines (text_in form) ts) out page
    unfolding run_at resumed
    at_end_lem T form q l S = let x = m.is T form q l S in go x x.left x.are x.runs x.ahead
      where
        go : (x : Telling f form a₀ w out₀ out at k page acc p₀ p) (left : List Ast) → x.before ++ left ≡ form.queries
            → run_at form.schema form.queries a₀ ≡ resumed x.ts (run_at form.schema left acc) → Ahead f at left
            → (ts : List Typed) × (run_at form.schema form.queries a₀ ≡ record { account = acc; end = all ts }) × Continues out₀ 0
            (form_lines (text_in form) ts) out page
        go x (a ∷ qs) e g A = absurd (omega (arith, query_ahead A))
        go x [] e g A =
            let whole : x.before ≡ form.queries = sym (append-nil x.before) ∙ e in
            let count : length form.queries ≡ length x.ts = ap length (sym whole) ∙ sym x.ran in (
              x.ts,
              g ∙ ap {B = RunAt} (λ e. record { account = acc; end = e }) (firsts_all x.ts),
              continues_as (ap (λ n. lines_of (text_in form) (ltb 1 n) 0 x.ts) count ∙ sym (form_lines_lem (text_in form) x.ts)) x.written,
            )

    pub midway_spent : SpendsOnQueries f w₀ a₀ p₀ p
    midway_spent = λ T form q l S. let x = m.is T form q l S in go form x x.left x.ahead x.turned
      where
        go : (form : Form) (x : Telling f form a₀ w out₀ out at k page acc p₀ p) (left : List Ast) → Ahead f at left
            → ((visits : List ℕ) (all : Bool) → InTurn form.schema a₀ left x.made visits all → WithFirst form a₀ x.made visits all) → SpendsOn form.schema form.queries a₀ p₀ p
        go form x (a ∷ qs) A i = absurd (omega (arith, query_ahead A))
        go form x [] A i =
            let whole = i [] true over in
            record { visits = whole.visits; all = true; turns = whole.turns; spent = omega (arith, x.within, whole.sum) }

    module _ (o : Result ℕ Refusal) (tell : (ls : List ℕ) → Continues out₀ 0 ls out page → CallEnds out₀ out o (answered ls)) where
      by_page : RunsQueries f w₀ out₀ a₀ out (record { account = acc; outcome = o })
      by_page = record {
        told = λ T form q l S. let y = at_end_lem T form q l S in (
          subst (λ x. CallEnds out₀ out o (decide_end (text_in form) x.end)) (sym y.1) (tell (form_lines (text_in form) y.0) y.2),
          sym (ap RunAt.account y.1),
        );
      }

    pub midway_fits : (n : ℕ) → page ≡ Some n → RunsQueries f w₀ out₀ a₀ out (record { account = acc; outcome = Ok n })
    unfolding CallEnds
    midway_fits n p = by_page (Ok n)
        (λ ls g. let h = whole_there g p in ((λ l. (ap Ok h.0, rw (← h.0) h.2)), λ l. absurd (omega (arith, h.0, h.1))))

    pub midway_full : page ≡ None → RunsQueries f w₀ out₀ a₀ out (record { account = acc; outcome = Err Variants.AnswerTooLong })
    unfolding CallEnds
    midway_full p = by_page (Err Variants.AnswerTooLong) (λ ls g. ((λ l. absurd (omega (arith, whole_over g p))), λ l. refl))

    pub midway_ends : RunsQueries f w₀ out₀ a₀ out (record { account = acc; outcome = ok_or page Variants.AnswerTooLong })
    midway_ends = go page refl
      where
        go : (p : Option ℕ) → page ≡ p → RunsQueries f w₀ out₀ a₀ out (record { account = acc; outcome = ok_or p Variants.AnswerTooLong })
        go None e = midway_full e
        go (Some n) e = midway_fits n e
