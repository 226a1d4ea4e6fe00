-- A query's turn: the loaded query's run is the definition's, and its lines follow what stands on the page.
use mathlib.Core.Bool.{Bool, true, false}
use mathlib.Core.List.{List, [], ◌∷◌, ◌++◌}
use mathlib.Core.Path.{◌≡◌, refl, sym, ap, subst, ◌∙◌}
use Prim.Native.Nat.{ℕ, zero, suc, ◌+◌, ◌-◌, ◌≤◌}
use native.Mathlib.Omega.{arith}
use lib.ListN.{length, take, drop, length-take}
use borrow.Author.Tests.{lt-ltb, le-ltb}
use Rattle.unification.specs.Ty as Tree
use Rattle.cells.specs.Stands.{Rows}
use Rattle.format.specs.Syntax.{Ast}
use Rattle.format.specs.File.{Described}
use Rattle.format.specs.Sound.{Sound}
use Rattle.meaning.specs.Check.{the_end, Step, Checked, typed, exhausted, checked, begin, check}
use Rattle.meaning.specs.Messages.{message_text}
use Rattle.format.specs.Bytes.{bytes₂, hex_line}
use Rattle.meaning.specs.Answer.{answer_lines}
use Rattle.meaning.specs.Outcome.{min_words}
use Rattle.tree.specs.Stands.{SchemaStands}
use Rattle.state.specs.declared.Until.TheVariants as Until
use Rattle.checker.specs.Promises.{Ran, to_the_end, ended_early, run_until, Queries}
use Rattle.loading.specs.Promises.{Ahead, Loads}
use Rattle.loading.proofs.Lines.{query_ahead}
use Rattle.writer.specs.Writes.{Writes}
use Rattle.answer.specs.Lines.{WritesAnswer}
use Rattle.writer.proofs.Writing.{shifted}
use Rattle.std.proofs.lemmas.Option.{some_pair_parts, same_Some}
use Rattle.std.specs.Prelude.{min, Result, Ok, Err}
use Rattle.std.specs.Result.{result_unwrap_or}
use Rattle.reading.specs.declared.Refusal.{Refusal}
use Rattle.driver.specs.Promises.{kept}
use Rattle.driver.specs.Turns.{head_line, several, Continues, Follows, Place, OneOfSeveral, Answered, AnswersQuery, Turned, Turns}
use Rattle.driver.proofs.Continuing.{continues, continues_none, continues_start, continues_to, continues_then, after_full, part_continues}
use Rattle.std.specs.Prelude.{None, Option, Some, ℕ, MatchOption, IsSomeAnd}
use Rattle.std.specs.Option.{option_and, unwrap_or}

-- ---- The line before

pub no_heading : (out : List ℕ) (page : Option ℕ) (k : ℕ) {b : Bool} → b ≡ false → Follows out page (head_line b k) out page
no_heading out page k none_needed = subst (λ b. Follows out page (head_line b k) out page) (sym none_needed)
    (refl, (λ n e l. subst (Continues out n [] out) (sym e) (continues_none out n l)), λ e. e)

module _ (k : ℕ) {b : Bool} (needed : b ≡ true) where
  pub heading_after : {out out' : List ℕ} {page r : Option ℕ} {n : ℕ} → page ≡ Some n → Writes out n (hex_line (0x0b ∷ bytes₂ k)) out' r
      → Follows out page (head_line b k) out' r
  heading_after {out} {out'} {page} {r} {n} q f =
      subst (λ b. Follows out page (head_line b k) out' r) (sym needed)
      (f.long, (λ m e l. let same : m ≡ n = cc in subst (λ i. Continues out i (head_line true k) out' r) (sym same) (continues f)), λ e. cc)

  pub heading_full : (out : List ℕ) (page : Option ℕ) → page ≡ None → Follows out page (head_line b k) out None
  heading_full out page q = subst (λ b. Follows out page (head_line b k) out None) (sym needed) (refl, (λ m e l. cc), λ e. refl)

pub triple_parts : {A B C : Type 0} {a x : A} {b y : B} {c z : C} → ◌≡◌ {A = Option (A × B × C)} (Some (a, b, c)) (Some (x, y, z)) → (a ≡ x) × (b ≡ y) × (c ≡ z)
triple_parts e = let p = same_Some _ _ e in (ap (λ q. q.0) p, ap (λ q. q.1) p, ap (λ q. q.2) p)

pub kept_is : (r : Result ℕ Refusal) → kept r ≡ result_unwrap_or r 0
kept_is (Ok n) = refl
kept_is (Err e) = refl

pub placed : (page : Option ℕ) {n room r : ℕ} → n ≡ unwrap_or page room → r ≡ min n room → Place page room r
placed (Some k) q l = record { within = omega (arith, l); is = λ m e h. let same : m ≡ k = cc in omega (arith, l, q, same) }
placed None q l = record { within = omega (arith, l); is = λ m e h. cc }

-- By the place after the query, as by the queries after it.
pub several_is : {f : List ℕ} {next k : ℕ} {qs : List Ast} {b : Bool} → OneOfSeveral k next (length f) b → Ahead f next qs → b ≡ several k qs
several_is {f} {next} {k} {qs} {b} s a = go k qs s a
  where
    go : (k : ℕ) (qs : List Ast) → OneOfSeveral k next (length f) b → Ahead f next qs → b ≡ several k qs
    go zero [] s a = s.first refl ∙ le-ltb next (length f) (a.ended refl)
    go zero (q ∷ qs) s a = s.first refl ∙ lt-ltb next (length f) (query_ahead a)
    go (suc k) qs s a = s.later (omega arith)

-- ---- The lines after it

module _ {out out₁ : List ℕ} {page head : Option ℕ} {line : List ℕ} (f : Follows out page line out₁ head) {place : ℕ} (p : Place head (length out₁) place) where
  abbrev pub back : List ℕ → List ℕ
  back part = take place out₁ ++ (part ++ drop (length out₁ - place) (drop place out₁))

  module _ {text part : List ℕ} {a : Option ℕ} (g : Continues (take (length out₁ - place) (drop place out₁)) 0 text part a) where
    whole : Continues out₁ place text (back part) (shifted place a)
    whole = part_continues out₁ place p.within g

    same_long : length (back part) ≡ length out
    same_long = whole.long ∙ f.0

    -- the page had room for the line, and what the lines came to in their part is what they come to in the whole
    joined : (m : ℕ) → head ≡ Some m → Follows out page (line ++ text) (back part) (shifted place a)
    joined m e = (
      same_long,
      (λ n q l.
          let first = f.1 n q l in
          let to = continues_to first e in
          let here : place ≡ m = p.is m e (omega (arith, to.1, f.0)) in
          continues_then first (e ∙ ap Some (sym here)) whole),
      λ q. cc (f.2 q),
    )

    lines_full : (m : ℕ) → head ≡ Some m → a ≡ None → Follows out page (line ++ text) (back part) None
    lines_full m e q = subst (Follows out page (line ++ text) (back part)) (ap (shifted place) q) (joined m e)

    lines_to : (m n l : ℕ) → head ≡ Some m → a ≡ Some n → l ≡ min n (length out₁ - place) → Follows out page (line ++ text) (back part) (Some (place + l))
    lines_to m n l e q least =
        let to = continues_to g q in
        let small : n ≤ length out₁ - place = omega (arith, to.1, length-take (length out₁ - place) (drop place out₁)) in
        subst (Follows out page (line ++ text) (back part)) (ap (shifted place) q ∙ ap (λ i. Some (place + i)) (sym (omega (arith, least, small)))) (joined m e)

    page_full : head ≡ None → Follows out page (line ++ text) (back part) None
    page_full e = (same_long, (λ n q l. after_full (f.1 n q l) e text (back part) same_long), λ q. refl)

    -- both had room, or the page is full
    pub lines_after : {z r : Option ℕ} {P : ℕ → ℕ → Type 0} → z ≡ option_and head a → MatchOption z (r ≡ None) (λ n. IsSomeAnd r (P n))
        → ((n v : ℕ) → P n v → v ≡ place + min n (length out₁ - place)) → Follows out page (line ++ text) (back part) r
    lines_after {z} {r} {P} e x v = go head refl a refl (subst (λ y. MatchOption y (r ≡ None) (λ n. IsSomeAnd r (P n))) e x)
      where
        go : (h : Option ℕ) → head ≡ h → (b : Option ℕ) → a ≡ b → MatchOption (option_and h b) (r ≡ None) (λ n. IsSomeAnd r (P n))
            → Follows out page (line ++ text) (back part) r
        go None q b q' y = subst (Follows out page (line ++ text) (back part)) (sym y) (page_full q)
        go (Some m) q None q' y = subst (Follows out page (line ++ text) (back part)) (sym y) (lines_full m q q')
        go (Some m) q (Some n) q' y = by r y
          where
            by : (s : Option ℕ) → IsSomeAnd s (P n) → Follows out page (line ++ text) (back part) s
            by None i = absurd i
            by (Some l) i = subst (Follows out page (line ++ text) (back part)) (ap Some (sym (v n l i)))
                (lines_to m n (min n (length out₁ - place)) q q' refl)

-- ---- The run and its lines

checks_run : (ceiling : ℕ) (d : Described) → check ceiling d.schema d.ast ≡ checked ceiling (run_until the_end d ceiling)
unfolding check run_until begin
checks_run ceiling d = refl

module _ {f w : List ℕ} {ceiling : ℕ} {out w₁ out₁ : List ℕ} {q : Option ℕ} (ran : Queries f w out Until.TheEnd ceiling w₁ out₁ q) where
  pub run_out : q ≡ None → AnswersQuery f w ceiling out w₁ out₁ None
  unfolding Answered checked
  run_out e = record {
    is = λ T d s S. subst (Answered f out w₁ out₁ None d) (sym (checks_run ceiling d)) (go d (ran.is T d s S));
    few = λ a v p. let z : ◌≡◌ {A = ℕ} 0 1 = cc in absurd (omega arith);
    words = ran.words;
    bytes = ran.slice;
  }
    where
      go : (d : Described) {x : Step Tree.Ty} → Ran f w₁ out₁ d q x → Answered f out w₁ out₁ None d (checked ceiling x)
      go d (to_the_end T R t p) = let z : ◌≡◌ {A = ℕ} 0 1 = cc in absurd (omega arith)
      go d (ended_early T R t k p) = refl

  pub run_on : (left : ℕ) → q ≡ Some left → (visits : ℕ) → visits ≡ ceiling - left → {out₂ : List ℕ} {a : Option ℕ} → WritesAnswer f w₁ out₁ visits out₂ a
      → AnswersQuery f w ceiling out w₁ out₂ (Some (a, visits))
  unfolding Answered checked
  run_on left e visits v {out₂} {a} wrote = record {
    is = λ T d s S. subst (Answered f out w₁ out₂ (Some (a, visits)) d) (sym (checks_run ceiling d)) (go d (ran.is T d s S));
    few = λ b n p. let same : visits ≡ n = (some_pair_parts _ _ _ _ p).1 in omega arith;
    words = ran.words;
    bytes = wrote.long ∙ ran.slice;
  }
    where
      go : (d : Described) {x : Step Tree.Ty} → Ran f w₁ out₁ d q x → Answered f out w₁ out₂ (Some (a, visits)) d (checked ceiling x)
      go d (to_the_end {ty = ty} {c = c} T R t p) =
          let same : left ≡ c.state.left = cc in
          let made : visits ≡ ceiling - c.state.left = v ∙ ap (λ n. ceiling - n) same in
          (a, ap (λ v. Some (a, v)) made, (T, R.stands.schema), continues_start ran.slice (continues (wrote.is T d c R t ceiling ty _ refl made)))
      go d (ended_early T R t k p) = let z : ◌≡◌ {A = ℕ} 0 1 = cc in absurd (omega arith)

-- ---- The turn

module _ {f : List ℕ} {at : ℕ} {w w₁ : List ℕ} {next : ℕ} (loads : Loads f at w w₁ next) {ceiling : ℕ} {lent w₂ part : List ℕ} {q : Option (Option ℕ × ℕ)}
    (answers : AnswersQuery f w₁ ceiling lent w₂ part q) where
  module _ (T : Rows) (d : Described) (qs : List Ast) (sound : Sound d) (long : min_words ≤ length w) (S : SchemaStands f w T d.names d.schema)
      (A : Ahead f at (d.ast ∷ qs)) where
    has_answered : Answered f lent w₂ part q d (check ceiling d.schema d.ast)
    has_answered = answers.is T d sound (loads.stands T d qs sound long S A)

  pub turn_out : (k : ℕ) (out out₁ : List ℕ) (page : Option ℕ) → q ≡ None → Turns f at k ceiling w out page w₂ out₁ None
  unfolding Turned Answered
  turn_out k out out₁ page e = record {
    onward = λ l n v m c. let z : ◌≡◌ {A = ℕ} 0 1 = cc in absurd (omega arith);
    few = λ n v m c. let z : ◌≡◌ {A = ℕ} 0 1 = cc in absurd (omega arith);
    is = λ T d qs s l S A. go d qs (check ceiling d.schema d.ast) (has_answered T d qs s l S A);
  }
    where
      go : (d : Described) (qs : List Ast) (x : Checked) → Answered f lent w₂ part q d x → Turned f k out page w₂ out₁ None d qs x
      go d qs exhausted h = refl
      go d qs (typed t) h = let p = h.1 in let z : ◌≡◌ {A = ℕ} 0 1 = cc in absurd (omega arith)

  module _ (a : Option ℕ) (visits : ℕ) (e : q ≡ Some (a, visits)) {k : ℕ} {b : Bool} (s : OneOfSeveral k next (length f) b) where
    pub turn_on : (out out' : List ℕ) (page written : Option ℕ) →
        ((text : List ℕ) → Continues lent 0 text part a → Follows out page (head_line b k ++ text) out' written)
        → Turns f at k ceiling w out page w₂ out' (Some (next, written, visits))
    unfolding Turned Answered
    turn_on out out' page written follows = record {
      onward = λ l n v m c. let same : next ≡ n = (triple_parts c).0 in (omega (arith, loads.onward l), omega (arith, loads.within));
      few = λ n v m c. let same : visits ≡ m = (triple_parts c).2 in omega (arith, answers.few a visits e);
      is = λ T d qs sd l S A. go d qs (loads.ahead d qs sd l A) (check ceiling d.schema d.ast) (has_answered T d qs sd l S A);
    }
      where
        go : (d : Described) (qs : List Ast) → Ahead f next qs → (x : Checked) → Answered f lent w₂ part q d x
            → Turned f k out page w₂ out' (Some (next, written, visits)) d qs x
        go d qs A exhausted h = let z : ◌≡◌ {A = ℕ} 0 1 = cc in absurd (omega arith)
        go d qs A (typed t) h =
            let parts = some_pair_parts _ _ _ _ (sym h.1 ∙ e) in
            let same : h.0 ≡ a = parts.0 in
            let lines = answer_lines (message_text d.names d.schema) t in
            let made : visits ≡ t.visits = sym parts.1 in
            let g : Continues lent 0 lines part a = subst (Continues lent 0 lines part) same h.3 in (
              next,
              written,
              ap (λ v. Some (next, written, v)) made,
              A,
              h.2,
              subst (λ m. Follows out page (head_line m k ++ lines) out' written)
                  (several_is s A) (follows lines g),
            )
