-- Naming nodes one after the other: what the first refer to and what the rest refer to make what all refer to, and the
-- first failure is the failure of all.
use mathlib.Core.Bool.{Bool, true, false, not}
use mathlib.Core.List.{List, [], ◌∷◌, ◌++◌, append_assoc, append-nil}
use mathlib.Core.Path.{◌≡◌, refl, sym, ap, subst, ◌∙◌}
use Prim.Native.Nat.{ℕ, ◌+◌, ◌/◌, ◌%◌, ◌<◌, ◌≤◌}
use native.Mathlib.Omega.{arith}
use lib.Dec.{eqb, ltb}
use lib.ListN.{get_or, set}
use lib.Seq.{get_or-set_same, get_or-set_other}
use borrow.Author.Tests.{eq-eqb, ne_eqb, eqb-true, eqb-false, lt-ltb, le-ltb, not-true}
use Rattle.work.specs.Layout.{NODES}
use Rattle.cells.proofs.Frame.{keeps_refl, keeps_trans, keeps_set}
use Rattle.format.specs.Conditions.{any_of, all_below, among, again}
use Rattle.format.proofs.Tests.{cases, clash}
use Rattle.reading.specs.Held.{flag, Marked}
use Rattle.reading.specs.declared.Refusal.{Refusal}
use Rattle.reading.specs.Marks.{told, ToldWhether, Marks, Roomy, Refers, NamesNode}
use Rattle.std.specs.Prelude.{◌&&◌, Err, Ok, Result}
use Rattle.std.proofs.lemmas.Bool.{and_parts, and_right}
use Rattle.reading.proofs.Walks.{again_same, again_next, again_here, among_last}

-- ---- Lists put together

below_append : (n : ℕ) (a b : List ℕ) → all_below n (a ++ b) ≡ (all_below n a && all_below n b)
unfolding all_below
below_append n [] b = refl
below_append n (m ∷ a) b = cases (ltb m n) (λ q. rw (q, all_below) (below_append n a b)) (λ q. rw (q, all_below))

among_middle : (m n : ℕ) (a b : List ℕ) → among m (n ∷ (a ++ b)) ≡ among m (a ++ n ∷ b)
unfolding among any_of
among_middle m n [] b = refl
among_middle m n (x ∷ a) b = cases (eqb m x)
    (λ q. cases (eqb m n) (λ p. rw (p, q, any_of)) (λ p. rw (p, q, any_of)))
    (λ q. cases (eqb m n) (λ p. rw (p, q, any_of) (rw (p, any_of) at (among_middle m n a b)))
    (λ p. rw (p, q, any_of) (rw (p, any_of) at (among_middle m n a b))))

-- the list is new to the earlier ones, so the rest is tested against both
again_append : (e a b : List ℕ) → again e a ≡ false → again e (a ++ b) ≡ again (e ++ a) b
unfolding again
again_append e [] b h = ap (λ l. again l b) (sym (append-nil e))
again_append e (n ∷ a) b h = cases (among n e)
    (λ q. clash (rw (q, again) at h))
    (λ q. again_next e n (a ++ b) q ∙ again_append (n ∷ e) a b (rw (q, again) at h) ∙ again_same (n ∷ (e ++ a)) (e ++ n ∷ a) b (λ m. among_middle m n e a))

again_more : (e a b : List ℕ) → again e a ≡ true → again e (a ++ b) ≡ true
unfolding again
again_more e [] b h = clash (sym h)
again_more e (n ∷ a) b h = cases (among n e)
    (λ q. again_here e n (a ++ b) q)
    (λ q. again_next e n (a ++ b) q ∙ again_more (n ∷ e) a b (rw (q, again) at h))

-- ---- One after the other

pub marks_none : {w : List ℕ} → Marks w w
marks_none = record { keeps = keeps_refl; half = λ i. refl }

marks_trans : {w v u : List ℕ} → Marks w v → Marks v u → Marks w u
marks_trans p q = record { keeps = keeps_trans p.keeps q.keeps; half = λ i. q.half i ∙ p.half i }

room_on : {w v : List ℕ} {nodes : ℕ} → Roomy w nodes → Marks w v → Roomy v nodes
room_on m p = record { few = m.few; long = rw p.keeps.long m.long }

module _ (names nodes : ℕ) where
  pub refers_none : (w : List ℕ) → Refers w names [] nodes [] w true
  unfolding all_below again
  refers_none w = record { is = λ m named h. refl; marks = λ m e. marks_none; marked = λ m e named h. subst (Marked w nodes) (sym (append-nil named)) h }

  pub refers_name : (w : List ℕ) (m : ℕ) (r : Bool) → r ≡ ltb m names → Refers w names (m ∷ []) nodes [] w r
  unfolding all_below again
  refers_name w m r e = record {
    is = λ o named h. cases (ltb m names) (λ q. e ∙ q ∙ sym (rw q)) (λ q. e ∙ q ∙ sym (rw q));
    marks = λ o e. marks_none;
    marked = λ o e named h. subst (Marked w nodes) (sym (append-nil named)) h;
  }

  module _ {w v u : List ℕ} {xs ns ys ms : List ℕ} where
    pub refers_then : {r : Bool} → Refers w names xs nodes ns v true → Refers v names ys nodes ms u r → Refers w names (xs ++ ys) nodes (ns ++ ms) u r
    refers_then {r} p q = record {
      is = λ m named h.
          let t = sym (p.is m named h) in
          let a = (and_parts (all_below names xs) _ t).0 in
          let b = (and_parts (all_below names xs) _ t).1 in
          let c = (and_parts (all_below nodes ns) _ b).0 in
          let d : again named ns ≡ false = not-true (again named ns) (and_parts (all_below nodes ns) _ b).1 in
          q.is (room_on m (p.marks m refl)) (named ++ ns) (p.marked m refl named h)
          ∙ sym (rw (below_append names xs ys, below_append nodes ns ms, a, c, again_append named ns ms d));
      marks = λ m e. marks_trans (p.marks m refl) (q.marks (room_on m (p.marks m refl)) e);
      marked = λ m e named h. subst (Marked u nodes) (append_assoc named ns ms)
          (q.marked (room_on m (p.marks m refl)) e (named ++ ns) (p.marked m refl named h));
    }

  module _ {w v xs ns : List ℕ} (p : Refers w names xs nodes ns v false) (ys ms : List ℕ) where
    fails_on : Roomy w nodes → (named : List ℕ) → Marked w nodes named → false ≡ ((all_below names xs && all_below names ys)
        && ((all_below nodes ns && all_below nodes ms) && not (again named (ns ++ ms))))
    fails_on m named h = cases (all_below names xs)
        (λ a. cases (all_below nodes ns)
        (λ b. cases (again named ns)
        (λ c. rw (a, b, again_more named ns ms c) (sym
        (ap (λ b. all_below names ys && b) (and_right (all_below nodes ms) false refl) ∙ and_right (all_below names ys) false refl)))
        (λ c. clash (sym (rw (a, b, c) at (p.is m named h)))))
        (λ b. rw (a, b) (sym (and_right (all_below names ys) false refl))))
        (λ a. rw a)

    pub refers_stop : Refers w names (xs ++ ys) nodes (ns ++ ms) v false
    refers_stop = record {
      is = λ m named h. rw (below_append names xs ys, below_append nodes ns ms) (fails_on m named h);
      marks = λ m e. clash (sym e);
      marked = λ m e. clash (sym e);
    }

-- ---- One node

among_own : (m : ℕ) (l : List ℕ) → among m (m ∷ l) ≡ true
unfolding among any_of
among_own m l = rw (eq-eqb m m refl, any_of)

among_rest : (i m : ℕ) (l : List ℕ) → (i ≡ m → ⊥) → among i (m ∷ l) ≡ among i l
unfolding among any_of
among_rest i m l n = rw (ne_eqb i m n, any_of)

flag_one : (b : Bool) → flag b ≡ 1 → b ≡ true
flag_one true e = refl
flag_one false e = absurd (omega arith)

flag_none : (b : Bool) → (flag b ≡ 1 → ⊥) → b ≡ false
flag_none true n = absurd (n refl)
flag_none false n = refl

again_one : (named : List ℕ) (m : ℕ) → again named (m ∷ []) ≡ among m named
unfolding again
again_one named m = cases (among m named) (λ q. again_here named m [] q ∙ sym q) (λ q. again_next named m [] q ∙ sym q)

module _ (w : List ℕ) (m nodes : ℕ) where
  pub node_none : nodes ≤ m → NamesNode w m nodes w false
  unfolding all_below
  node_none l = record { is = λ names. record { is = λ o named h. rw (le-ltb m nodes l); marks = λ o e. clash (sym e); marked = λ o e. clash (sym e) } }

  module _ (l : m < nodes) where
    pub node_again : get_or w (NODES + m) 0 % 2 ≡ 1 → NamesNode w m nodes w false
    unfolding all_below
    node_again e = record {
      is = λ names. record {
        is = λ o named h. rw (lt-ltb m nodes l, again_one named m, flag_one (among m named) (sym (h.mark m l) ∙ e));
        marks = λ o e. clash (sym e);
        marked = λ o e. clash (sym e);
      };
    }

    module _ (free : get_or w (NODES + m) 0 % 2 ≡ 1 → ⊥) where
      abbrev w' : List ℕ
      w' = set w (NODES + m) (get_or w (NODES + m) 0 + 1)

      here : Roomy w nodes → get_or w' (NODES + m) 0 ≡ get_or w (NODES + m) 0 + 1
      here o = get_or-set_same w (NODES + m) (get_or w (NODES + m) 0 + 1) 0 (omega arith)

      there : (i : ℕ) → (i ≡ m → ⊥) → get_or w' (NODES + i) 0 ≡ get_or w (NODES + i) 0
      there i n = get_or-set_other w (NODES + m) (NODES + i) (get_or w (NODES + m) 0 + 1) 0 (λ q. n (omega arith))

      marks_one : Roomy w nodes → Marks w w'
      marks_one o = record {
        keeps = keeps_set w (NODES + m) (get_or w (NODES + m) 0 + 1) (omega arith) (omega arith);
        half = λ i. cases (eqb i m)
            (λ q. let e = eqb-true i m q in rw (e, here o) (omega (arith, free)))
            (λ q. ap (λ x. x / 2) (there i (eqb-false i m q)));
      }

      marked_one : Roomy w nodes → (named : List ℕ) → Marked w nodes named → Marked w' nodes (named ++ m ∷ [])
      marked_one o named h = record {
        mark = λ i b. cases (eqb i m)
            (λ q. let e = eqb-true i m q in rw (e, here o, ← among_last m m named, among_own m named) (omega (arith, free)))
            (λ q. let n = eqb-false i m q in rw (there i n, ← among_last i m named, among_rest i m named n) (h.mark i b));
        later = λ i b. sym (among_last i m named) ∙ among_rest i m named (λ q. omega arith) ∙ h.later i b;
      }

      pub node_marks : (v : List ℕ) → v ≡ set w (NODES + m) (get_or w (NODES + m) 0 + 1) → NamesNode w m nodes v true
      unfolding all_below
      node_marks v e = record {
        is = λ names. record {
          is = λ o named h. rw (lt-ltb m nodes l, again_one named m, flag_none (among m named) (λ q. free (h.mark m l ∙ q)));
          marks = λ o q. rw e (marks_one o);
          marked = λ o q named h. rw e (marked_one o named h);
        };
      }

-- ---- What a refusal says

pub told_there : {P : Bool → Type 0} {r : Result (Unit {0}) Refusal} → ToldWhether P r → r ≡ Ok tt → P true
told_there {P} {r} t e = go t.there t.is t.holds
  where
    go : (b : Bool) → r ≡ told b → P b → P true
    go true q h = h
    go false q h =
        let x : ◌≡◌ {A = Result (Unit {0}) Refusal} (Ok tt) (Err Refusal.BadReference) = sym e ∙ q in let z : ◌≡◌ {A = ℕ} 0 1 = cc in absurd (omega arith)

pub told_missing : {P : Bool → Type 0} {r : Result (Unit {0}) Refusal} {e : Refusal} → ToldWhether P r → r ≡ Err e → (e ≡ Refusal.BadReference) × P false
told_missing {P} {r} {e} t q = go t.there t.is t.holds
  where
    go : (b : Bool) → r ≡ told b → P b → (e ≡ Refusal.BadReference) × P false
    go true p h = let x : ◌≡◌ {A = Result (Unit {0}) Refusal} (Ok tt) (Err e) = sym p ∙ q in let z : ◌≡◌ {A = ℕ} 0 1 = cc in absurd (omega arith)
    go false p h = let x : ◌≡◌ {A = Result (Unit {0}) Refusal} (Err e) (Err Refusal.BadReference) = sym q ∙ p in (cc, h)

pub told_by : {P Q : Bool → Type 0} {r : Result (Unit {0}) Refusal} → ((b : Bool) → P b → Q b) → ToldWhether P r → ToldWhether Q r
told_by f t = record { there = t.there; is = t.is; holds = f t.there t.holds }

pub missing : {P : Bool → Type 0} {e : Refusal} → e ≡ Refusal.BadReference → P false → ToldWhether P (Err e)
missing q h = record { there = false; is = ap Err q; holds = h }

pub all_there : {P : Bool → Type 0} → P true → ToldWhether P (Ok tt)
all_there h = record { there = true; is = refl; holds = h }
