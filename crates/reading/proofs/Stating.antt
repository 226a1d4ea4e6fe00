-- The loop over statements: the nodes of the statements passed are there and marked, and the statements left fill the
-- line.
use mathlib.Core.Bool.{Bool, true, false}
use mathlib.Core.List.{List, [], ◌∷◌, ◌++◌, append_assoc, append-nil}
use mathlib.Core.Path.{◌≡◌, refl, sym, ap, subst, ◌∙◌}
use Prim.Native.Nat.{ℕ, zero, suc, ◌+◌, ◌-◌, ◌<◌, ◌≤◌, min}
use native.Mathlib.Omega.{arith}
use lib.ListN.{length, get_or, drop, length-drop}
use lib.Seq.{get_or-drop}
use native.Mathlib.Nat.{add-zero}
use Rattle.std.proofs.lemmas.List.{drop-drop}
use Rattle.format.specs.Syntax.{QueryStmt}
use Rattle.format.specs.References.{stmt_nodes}
use Rattle.frames.specs.Promises.{byte_w, half_w, size_w}
use Rattle.frames.specs.Items.{statement_of, statement_at, Fill, end, then}
use Rattle.reading.specs.Marks.{Refers, NamesNode, NamesStatements}
use Rattle.reading.proofs.Marking.{refers_none, refers_then, refers_stop}

-- ---- A statement's nodes by its first byte

nodes_one : (b x y : ℕ) (xs : List QueryStmt) → 1 ≤ b → b < 3 → stmt_nodes (statement_of b x y ∷ xs) ≡ x ∷ stmt_nodes xs
unfolding stmt_nodes
nodes_one zero x y xs l h = absurd (omega arith)
nodes_one (suc zero) x y xs l h = refl
nodes_one (suc (suc zero)) x y xs l h = refl
nodes_one (suc (suc (suc n))) x y xs l h = absurd (omega arith)

nodes_two : (b x y : ℕ) (xs : List QueryStmt) → (b ≡ 1 → ⊥) → (b ≡ 2 → ⊥) → 0 < size_w b → stmt_nodes (statement_of b x y ∷ xs) ≡ x ∷ y ∷ stmt_nodes xs
unfolding stmt_nodes
nodes_two zero x y xs m n h = refl
nodes_two (suc zero) x y xs m n h = absurd (m refl)
nodes_two (suc (suc zero)) x y xs m n h = absurd (n refl)
nodes_two (suc (suc (suc zero))) x y xs m n h = refl
nodes_two (suc (suc (suc (suc zero)))) x y xs m n h = refl
nodes_two (suc (suc (suc (suc (suc k))))) x y xs m n h = absurd (omega arith)

size_two : (b : ℕ) → (b ≡ 1 → ⊥) → (b ≡ 2 → ⊥) → 0 < size_w b → size_w b ≡ 5
size_two zero m n h = refl
size_two (suc zero) m n h = absurd (m refl)
size_two (suc (suc zero)) m n h = absurd (n refl)
size_two (suc (suc (suc zero))) m n h = refl
size_two (suc (suc (suc (suc zero)))) m n h = refl
size_two (suc (suc (suc (suc (suc k))))) m n h = absurd (omega arith)

size_one : (b : ℕ) → 1 ≤ b → b < 3 → size_w b ≡ 3
size_one zero l h = absurd (omega arith)
size_one (suc zero) l h = refl
size_one (suc (suc zero)) l h = refl
size_one (suc (suc (suc n))) l h = absurd (omega arith)

-- the first node, whatever the statement
first_node : (b x y : ℕ) (xs : List QueryStmt) → 0 < size_w b → (more : List ℕ) × (stmt_nodes (statement_of b x y ∷ xs) ≡ x ∷ more)
unfolding stmt_nodes
first_node zero x y xs h = (y ∷ stmt_nodes xs, refl)
first_node (suc zero) x y xs h = (stmt_nodes xs, refl)
first_node (suc (suc zero)) x y xs h = (stmt_nodes xs, refl)
first_node (suc (suc (suc zero))) x y xs h = (y ∷ stmt_nodes xs, refl)
first_node (suc (suc (suc (suc zero)))) x y xs h = (y ∷ stmt_nodes xs, refl)
first_node (suc (suc (suc (suc (suc k))))) x y xs h = absurd (omega arith)

-- ---- The walk

-- The statements left and the nodes of those passed.
pub record Left (s w₀ : List ℕ) (names nodes : ℕ) (all : List ℕ) (at : ℕ) (w : List ℕ) : Type 0 where
  pub done : List ℕ
  pub rest : List QueryStmt
  pub fill : Fill s at rest
  pub is : all ≡ done ++ stmt_nodes rest
  pub so_far : Refers w₀ names [] nodes done w true

pub record Stating (s w₀ : List ℕ) (nodes at : ℕ) (w : List ℕ) : Type 0 where
  pub to : (names : ℕ) (stmts : List QueryStmt) → Fill s 0 stmts → Left s w₀ names nodes (stmt_nodes stmts) at w

pub state_start : (s w : List ℕ) (nodes : ℕ) → Stating s w nodes 0 w
state_start s w nodes = record { to = λ names stmts f. record { done = []; rest = stmts; fill = f; is = refl; so_far = refers_none names nodes w } }

-- The next statement.
record Opens (s : List ℕ) (at : ℕ) (all done : List ℕ) : Type 0 where
  more : List QueryStmt
  size : 0 < size_w (byte_w s at)
  fits : at + size_w (byte_w s at) ≤ length s
  fill : Fill s (at + size_w (byte_w s at)) more
  is : all ≡ done ++ stmt_nodes (statement_at s at ∷ more)

opens : (s : List ℕ) (at : ℕ) (all done : List ℕ) (rest : List QueryStmt) → at < length s → Fill s at rest → all ≡ done ++ stmt_nodes rest → Opens s at all done
opens s at all done [] l (end e) q = absurd (omega arith)
opens s at all done (x ∷ xs) l (then p h f) q = record { more = xs; size = p; fits = h; fill = f; is = q }

module _ {s w₀ : List ℕ} {nodes at : ℕ} {w : List ℕ} (t : Stating s w₀ nodes at w) (l : at < length s) where
  -- a failure after some of the next statement's nodes is the failure of all
  fails_with : (ns : List ℕ) (v : List ℕ) → ((names : ℕ) → Refers w names [] nodes ns v false)
      → ((xs : List QueryStmt) → 0 < size_w (byte_w s at) → (more : List ℕ) × (stmt_nodes (statement_at s at ∷ xs) ≡ ns ++ more))
      → NamesStatements s w₀ nodes v false
  fails_with ns v r first = record {
    is = λ names stmts f.
        let g = t.to names stmts f in
        let o = opens s at (stmt_nodes stmts) g.done g.rest l g.fill g.is in
        let m = first o.more o.size in
        let all : stmt_nodes stmts ≡ (g.done ++ ns) ++ m.0 = o.is ∙ ap (λ x. g.done ++ x) m.1 ∙ sym (append_assoc g.done ns m.0) in
        rw all (refers_stop names nodes (refers_then names nodes g.so_far (r names)) [] m.0);
  }

  pub state_no_first : (v : List ℕ) → NamesNode w (half_w s (at + 1)) nodes v false → NamesStatements s w₀ nodes v false
  state_no_first v n = fails_with (half_w s (at + 1) ∷ []) v n.is (λ xs h. first_node (byte_w s at) (half_w s (at + 1)) (half_w s (at + 3)) xs h)

  -- the walk goes on after the statement's nodes, as far as there are bytes
  goes_with : (ns : List ℕ) (v : List ℕ) (step to : ℕ) → (at + step ≤ length s → to ≡ at + step) → ((names : ℕ) → Refers w names [] nodes ns v true)
      → ((xs : List QueryStmt) → 0 < size_w (byte_w s at) → (size_w (byte_w s at) ≡ step) × (stmt_nodes (statement_at s at ∷ xs) ≡ ns ++ stmt_nodes xs))
      → Stating s w₀ nodes to v
  goes_with ns v step to on r all = record {
    to = λ names stmts f.
        let g = t.to names stmts f in
        let o = opens s at (stmt_nodes stmts) g.done g.rest l g.fill g.is in
        let m = all o.more o.size in
        record {
          done = g.done ++ ns;
          rest = o.more;
          fill = subst (λ i. Fill s i o.more) (ap (λ n. at + n) m.0 ∙ sym (on (subst (λ n. at + n ≤ length s) m.0 o.fits))) o.fill;
          is = o.is ∙ ap (λ x. g.done ++ x) m.1 ∙ sym (append_assoc g.done ns (stmt_nodes o.more));
          so_far = refers_then names nodes g.so_far (r names);
        };
  }

  pub state_one : (v : List ℕ) → 1 ≤ byte_w s at → byte_w s at < 3 → NamesNode w (half_w s (at + 1)) nodes v true → (to : ℕ) → (at + 3 ≤ length s → to ≡ at + 3)
      → Stating s w₀ nodes to v
  state_one v a b n to on = goes_with (half_w s (at + 1) ∷ []) v 3 to on n.is
      (λ xs h. (size_one (byte_w s at) a b, nodes_one (byte_w s at) (half_w s (at + 1)) (half_w s (at + 3)) xs a b))

  module _ (a : byte_w s at ≡ 1 → ⊥) (b : byte_w s at ≡ 2 → ⊥) (v : List ℕ) (n : NamesNode w (half_w s (at + 1)) nodes v true) (u : List ℕ) where
    both_nodes : (r : Bool) → NamesNode v (half_w s (at + 3)) nodes u r → (names : ℕ) → Refers w names [] nodes (half_w s (at + 1) ∷ half_w s (at + 3) ∷ []) u r
    both_nodes r m names = refers_then names nodes (n.is names) (m.is names)

    pub state_no_second : NamesNode v (half_w s (at + 3)) nodes u false → NamesStatements s w₀ nodes u false
    state_no_second m = fails_with (half_w s (at + 1) ∷ half_w s (at + 3) ∷ []) u (both_nodes false m)
        (λ xs h. (stmt_nodes xs, nodes_two (byte_w s at) (half_w s (at + 1)) (half_w s (at + 3)) xs a b h))

    pub state_two : NamesNode v (half_w s (at + 3)) nodes u true → (to : ℕ) → (at + 5 ≤ length s → to ≡ at + 5) → Stating s w₀ nodes to u
    state_two m to on = goes_with (half_w s (at + 1) ∷ half_w s (at + 3) ∷ []) u 5 to on (both_nodes true m)
        (λ xs h. (size_two (byte_w s at) a b h, nodes_two (byte_w s at) (half_w s (at + 1)) (half_w s (at + 3)) xs a b h))

pub state_end : {s w₀ : List ℕ} {nodes at : ℕ} {w : List ℕ} → Stating s w₀ nodes at w → length s ≤ at → NamesStatements s w₀ nodes w true
unfolding stmt_nodes
state_end {s} {w₀} {nodes} {at} {w} t l = record { is = λ names stmts f. go names (t.to names stmts f) }
  where
    nothing : (rest : List QueryStmt) → Fill s at rest → rest ≡ []
    nothing [] (end e) = refl
    nothing (x ∷ xs) (then p h f) = absurd (omega arith)

    go : (names : ℕ) {all : List ℕ} → Left s w₀ names nodes all at w → Refers w₀ names [] nodes all w true
    go names g = rw (g.is ∙ ap (λ r. g.done ++ stmt_nodes r) (nothing g.rest g.fill) ∙ append-nil g.done) g.so_far

-- ---- The bytes that are left

drop_least : (n : ℕ) (l : List ℕ) → drop n l ≡ drop (min n (length l)) l
drop_least zero l = let z : min 0 (length l) ≡ 0 = omega arith in rw z
drop_least (suc n) [] = let z : min (suc n) 0 ≡ 0 = omega arith in rw z
drop_least (suc n) (x ∷ l) = let z : min (suc n) (suc (length l)) ≡ suc (min n (length l)) = omega arith in rw z (drop_least n l)

-- After so many bytes these are left.
pub record Rest (s : List ℕ) (at : ℕ) (rest : List ℕ) : Type 0 where
  pub is : rest ≡ drop at s
  pub within : at ≤ length s

module _ {s rest : List ℕ} {at : ℕ} (r : Rest s at rest) where
  pub rest_byte : (i : ℕ) → byte_w rest i ≡ byte_w s (at + i)
  rest_byte i = ap (λ l. get_or l i 0) r.is ∙ get_or-drop at s i 0

  pub rest_half : (i : ℕ) → half_w rest i ≡ half_w s (at + i)
  unfolding half_w
  rest_half i = let z : at + (i + 1) ≡ at + i + 1 = omega arith in rw (rest_byte i, rest_byte (i + 1), z)

  pub rest_left : length rest ≡ length s - at
  rest_left = ap length r.is ∙ length-drop at s

  -- n bytes on, or as many as there are
  pub rest_on : (n m : ℕ) (v : List ℕ) → m ≡ min n (length rest) → v ≡ drop n rest → Rest s (at + m) v
  rest_on n m v e d = record {
    is = d ∙ drop_least n rest ∙ ap (λ k. drop k rest) (sym e) ∙ ap (drop m) r.is ∙ drop-drop m at s;
    within = omega (arith, rest_left, r.within);
  }

  pub as_far : (n m : ℕ) → m ≡ min n (length rest) → at + n ≤ length s → at + m ≡ at + n
  as_far n m e h = omega (arith, rest_left)

  module _ {w₀ w : List ℕ} {nodes : ℕ} (t : Stating s w₀ nodes at w) (l : 0 < length rest) where
    there : at < length s
    there = omega (arith, rest_left)

    tag : byte_w rest 0 ≡ byte_w s at
    tag = rest_byte 0 ∙ ap (byte_w s) (add-zero at)

    pub rest_no_first : (v : List ℕ) → NamesNode w (half_w rest 1) nodes v false → NamesStatements s w₀ nodes v false
    rest_no_first v n = state_no_first t there v (rw (rest_half 1) at n)

    pub rest_one : (v : List ℕ) → 1 ≤ byte_w rest 0 → byte_w rest 0 < 3 → NamesNode w (half_w rest 1) nodes v true → (m : ℕ) → m ≡ min 3 (length rest)
        → Stating s w₀ nodes (at + m) v
    rest_one v a b n m e = state_one t there v (rw tag at a) (rw tag at b) (rw (rest_half 1) at n) (at + m) (as_far 3 m e)

    module _ (a : byte_w rest 0 ≡ 1 → ⊥) (b : byte_w rest 0 ≡ 2 → ⊥) (v : List ℕ) (n : NamesNode w (half_w rest 1) nodes v true) (u : List ℕ) where
      pub rest_no_second : NamesNode v (half_w rest 3) nodes u false → NamesStatements s w₀ nodes u false
      rest_no_second o = state_no_second t there (rw tag at a) (rw tag at b) v (rw (rest_half 1) at n) u (rw (rest_half 3) at o)

      pub rest_two : NamesNode v (half_w rest 3) nodes u true → (m : ℕ) → m ≡ min 5 (length rest) → Stating s w₀ nodes (at + m) u
      rest_two o m e = state_two t there (rw tag at a) (rw tag at b) v (rw (rest_half 1) at n) u (rw (rest_half 3) at o) (at + m) (as_far 5 m e)

  pub rest_end : {w₀ w : List ℕ} {nodes : ℕ} → Stating s w₀ nodes at w → length rest < 1 → NamesStatements s w₀ nodes w true
  rest_end t l = state_end t (omega (arith, rest_left))

pub rest_start : (s : List ℕ) → Rest s 0 s
rest_start s = record { is = refl; within = omega arith }
