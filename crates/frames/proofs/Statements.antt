-- Statements by places of the bytes: a tag says how many bytes one takes, and a list of them is read exactly where they
-- fill what is left.
use Rattle.std.specs.Prelude.{slice_get}
use mathlib.Core.Bool.{Bool, true, false}
use mathlib.Core.List.{List, [], ◌∷◌}
use mathlib.Core.Path.{◌≡◌, refl, sym, ap, subst, ◌∙◌}
use Prim.Native.Nat.{ℕ, zero, suc, ◌+◌, ◌<◌, ◌≤◌}
use native.Mathlib.Omega.{arith}
use lib.Dec.{eqb, ltb}
use lib.ListN.{length, drop, length-drop, drop_of_length-le}
use borrow.Author.Tests.{eqb-true, eqb-false, ltb-true, ltb-false}
use Rattle.sigla_hex.proofs.Line.{from_here}
use Rattle.format.specs.Syntax.{QueryStmt}
use Rattle.format.specs.Frame.{Got, got, fails, Reader, and_then, one, pair, two, many, entry, choice, statements}
use Rattle.frames.specs.Promises.{byte_w, half_w, size_w, statement}
use Rattle.frames.specs.Items.{statement_of, statement_at, Fill, end, then}
use Rattle.frames.proofs.Readers.{sized_one, sized_pair, sized_two, Shrinks, many_end, many_stop, many_step}

-- ---- A byte that says how to go on

module _ {A : Type 0} (table : List (Reader A)) (s : List ℕ) (i : ℕ) where
  pub choice_at : i < length s → choice table (drop i s) ≡ entry (slice_get table (byte_w s i)) (drop (i + 1) s)
  unfolding choice
  choice_at h = ap (choice table) (from_here s i h)

  pub choice_past : length s ≤ i → choice table (drop i s) ≡ fails
  unfolding choice
  choice_past h = ap (choice table) (drop_of_length-le s h)

-- ---- One statement

abbrev rows : List (Reader QueryStmt)
rows = pair QueryStmt.Bind two two ∷ one QueryStmt.Implicit two ∷ one QueryStmt.Negation two ∷ pair QueryStmt.Deny two two ∷ pair QueryStmt.Compare two two ∷ []

module _ (s : List ℕ) (i : ℕ) where
  two_nodes : (make : ℕ → ℕ → QueryStmt) → i + 5 ≤ length s → pair make two two (drop (i + 1) s) ≡ got (make (half_w s (i + 1)) (half_w s (i + 3)))
      (drop (i + 5) s)
  two_nodes make h =
      let u : i + 1 + 2 ≡ i + 3 = omega arith in
      let v : i + 1 + (2 + 2) ≡ i + 5 = omega arith in
      rw (u, v) at ((sized_pair make sized_two sized_two).reads s (i + 1) (omega arith))

  one_node : (make : ℕ → QueryStmt) → i + 3 ≤ length s → one make two (drop (i + 1) s) ≡ got (make (half_w s (i + 1))) (drop (i + 3) s)
  one_node make h =
      let v : i + 1 + 2 ≡ i + 3 = omega arith in
      rw v at ((sized_one make sized_two).reads s (i + 1) (omega arith))

  row_reads : (b : ℕ) → 0 < size_w b → i + size_w b ≤ length s → entry (slice_get rows b) (drop (i + 1) s) ≡ got
      (statement_of b (half_w s (i + 1)) (half_w s (i + 3))) (drop (i + size_w b) s)
  unfolding entry
  row_reads zero p h = two_nodes QueryStmt.Bind h
  row_reads (suc zero) p h = one_node QueryStmt.Implicit h
  row_reads (suc (suc zero)) p h = one_node QueryStmt.Negation h
  row_reads (suc (suc (suc zero))) p h = two_nodes QueryStmt.Deny h
  row_reads (suc (suc (suc (suc zero)))) p h = two_nodes QueryStmt.Compare h
  row_reads (suc (suc (suc (suc (suc b))))) p h = absurd (omega arith)

  row_lacks : (b : ℕ) → i < length s → length s < i + size_w b → entry (slice_get rows b) (drop (i + 1) s) ≡ fails
  unfolding entry
  row_lacks zero l h = (sized_pair QueryStmt.Bind sized_two sized_two).lacks s (i + 1) (omega arith) (omega arith)
  row_lacks (suc zero) l h = (sized_one QueryStmt.Implicit sized_two).lacks s (i + 1) (omega arith) (omega arith)
  row_lacks (suc (suc zero)) l h = (sized_one QueryStmt.Negation sized_two).lacks s (i + 1) (omega arith) (omega arith)
  row_lacks (suc (suc (suc zero))) l h = (sized_pair QueryStmt.Deny sized_two sized_two).lacks s (i + 1) (omega arith) (omega arith)
  row_lacks (suc (suc (suc (suc zero)))) l h = (sized_pair QueryStmt.Compare sized_two sized_two).lacks s (i + 1) (omega arith) (omega arith)
  row_lacks (suc (suc (suc (suc (suc b))))) l h = absurd (omega arith)

  row_none : (b : ℕ) → size_w b ≡ 0 → entry (slice_get rows b) (drop (i + 1) s) ≡ fails
  unfolding entry
  row_none zero e = absurd (omega arith)
  row_none (suc zero) e = absurd (omega arith)
  row_none (suc (suc zero)) e = absurd (omega arith)
  row_none (suc (suc (suc zero))) e = absurd (omega arith)
  row_none (suc (suc (suc (suc zero)))) e = absurd (omega arith)
  row_none (suc (suc (suc (suc (suc b))))) e = refl

  module _ (here : i < length s) where
    pub statement_reads : 0 < size_w (byte_w s i) → i + size_w (byte_w s i) ≤ length s
        → statement (drop i s) ≡ got (statement_at s i) (drop (i + size_w (byte_w s i)) s)
    unfolding statements
    statement_reads p h = choice_at rows s i here ∙ row_reads (byte_w s i) p h

    pub statement_lacks : length s < i + size_w (byte_w s i) → statement (drop i s) ≡ fails
    unfolding statements
    statement_lacks h = choice_at rows s i here ∙ row_lacks (byte_w s i) here h

    pub statement_none : size_w (byte_w s i) ≡ 0 → statement (drop i s) ≡ fails
    unfolding statements
    statement_none e = choice_at rows s i here ∙ row_none (byte_w s i) e

-- What stands where bytes are left.
pub data Next (s : List ℕ) (i : ℕ) : Type 0 where
  reads : 0 < size_w (byte_w s i) → i + size_w (byte_w s i) ≤ length s → statement (drop i s) ≡ got (statement_at s i) (drop (i + size_w (byte_w s i)) s)
      → Next s i
  stops : statement (drop i s) ≡ fails → Next s i

pub next : (s : List ℕ) (i : ℕ) → i < length s → Next s i
next s i h = known (eqb (size_w (byte_w s i)) 0) refl
  where
    room : (u : Bool) → ltb (length s) (i + size_w (byte_w s i)) ≡ u → (size_w (byte_w s i) ≡ 0 → ⊥) → Next s i
    room true q n = stops (statement_lacks s i h (ltb-true (length s) (i + size_w (byte_w s i)) q))
    room false q n =
        let some : 0 < size_w (byte_w s i) = omega arith in
        let fits = ltb-false (length s) (i + size_w (byte_w s i)) q in
        reads some fits (statement_reads s i h some fits)

    known : (u : Bool) → eqb (size_w (byte_w s i)) 0 ≡ u → Next s i
    known true q = stops (statement_none s i h (eqb-true (size_w (byte_w s i)) 0 q))
    known false q = room (ltb (length s) (i + size_w (byte_w s i))) refl (eqb-false (size_w (byte_w s i)) 0 q)

pub statement_shrinks : Shrinks statement
statement_shrinks b s a t e = go (next (b ∷ s) 0 (omega arith))
  where
    go : Next (b ∷ s) 0 → length t ≤ length s
    go (stops q) = let z : ◌≡◌ {A = ℕ} 0 1 = cc in absurd (omega arith)
    go (reads p h q) =
        let z : t ≡ drop (0 + size_w b) (b ∷ s) = cc in
        omega (arith, ap length z, length-drop (0 + size_w b) (b ∷ s), p)

-- ---- Statements to the frame's end

pub statements_step : (s : List ℕ) (i : ℕ) → 0 < size_w (byte_w s i) → i + size_w (byte_w s i) ≤ length s
    → many statement (drop i s) ≡ one (λ more. statement_at s i ∷ more) (many statement) (drop (i + size_w (byte_w s i)) s)
statements_step s i p h =
    let here : i < length s = omega arith in
    many_step statement s i here statement_shrinks (statement_at s i) (i + size_w (byte_w s i)) (omega arith) (statement_reads s i here p h)

pub statements_of : (s : List ℕ) (i : ℕ) (xs : List QueryStmt) → Fill s i xs → many statement (drop i s) ≡ got xs []
unfolding one and_then
statements_of s i [] (end e) = many_end statement s i (omega arith)
statements_of s i (x ∷ xs) (then p h f) =
    statements_step s i p h ∙ ap (λ g. and_then g (λ more. got (x ∷ more))) (statements_of s (i + size_w (byte_w s i)) xs f)

data Opened (s : List ℕ) (i : ℕ) (t : List ℕ) : List QueryStmt → Type 0 where
  nothing_left : i ≡ length s → t ≡ [] → Opened s i t []
  one_more : {xs : List QueryStmt} → 0 < size_w (byte_w s i) → i + size_w (byte_w s i) ≤ length s
      → many statement (drop (i + size_w (byte_w s i)) s) ≡ got xs t → Opened s i t (statement_at s i ∷ xs)

-- a list that is read, by its first statement
opened : (s : List ℕ) (i : ℕ) → i ≤ length s → (xs : List QueryStmt) (t : List ℕ) → many statement (drop i s) ≡ got xs t → Opened s i t xs
unfolding one and_then
opened s i h xs t e = start (ltb i (length s)) refl
  where
    ended : i ≡ length s → got [] [] ≡ got xs t → Opened s i t xs
    ended q m =
        let u : [] ≡ xs = cc in
        let v : [] ≡ t = cc in
        subst (λ ys. Opened s i t ys) u (nothing_left q (sym v))

    after : 0 < size_w (byte_w s i) → i + size_w (byte_w s i) ≤ length s → (g : Got (List QueryStmt))
        → many statement (drop (i + size_w (byte_w s i)) s) ≡ g → and_then g (λ more. got (statement_at s i ∷ more)) ≡ got xs t → Opened s i t xs
    after p l (got ys r) q m =
        let u : statement_at s i ∷ ys ≡ xs = cc in
        let v : r ≡ t = cc in
        subst (λ zs. Opened s i t zs) u (one_more p l (q ∙ ap (got ys) v))
    after p l fails q m = let z : ◌≡◌ {A = ℕ} 0 1 = cc in absurd (omega arith)

    here : i < length s → Next s i → Opened s i t xs
    here l (stops q) = let z : ◌≡◌ {A = ℕ} 0 1 = cc (many_stop statement s i l q) in absurd (omega arith)
    here l (reads p r q) = after p r (many statement (drop (i + size_w (byte_w s i)) s)) refl (sym (statements_step s i p r) ∙ e)

    start : (u : Bool) → ltb i (length s) ≡ u → Opened s i t xs
    start true q = let l = ltb-true i (length s) q in here l (next s i l)
    start false q = let l = ltb-false i (length s) q in ended (omega arith) (sym (many_end statement s i l) ∙ e)

pub statements_are : (s : List ℕ) (i : ℕ) → i ≤ length s → (xs : List QueryStmt) (t : List ℕ) → many statement (drop i s) ≡ got xs t → Fill s i xs × (t ≡ [])
statements_are s i h [] t e = go (opened s i h [] t e)
  where
    go : Opened s i t [] → Fill s i [] × (t ≡ [])
    go (nothing_left q all) = (end q, all)
statements_are s i h (x ∷ xs) t e = go x xs (opened s i h (x ∷ xs) t e) (λ l q. statements_are s (i + size_w (byte_w s i)) l xs t q)
  where
    go : (x : QueryStmt) (xs : List QueryStmt) → Opened s i t (x ∷ xs)
        → (i + size_w (byte_w s i) ≤ length s → many statement (drop (i + size_w (byte_w s i)) s) ≡ got xs t
        → Fill s (i + size_w (byte_w s i)) xs × (t ≡ [])) → Fill s i (x ∷ xs) × (t ≡ [])
    go x xs (one_more p l q) on = let m = on l q in (then p l m.0, m.1)
