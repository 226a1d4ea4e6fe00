-- References that are all lower are read as they stand: items, fields and statements, each list by its elements'
-- places.
use mathlib.Core.Bool.{Bool, true, false}
use mathlib.Core.List.{List, [], ◌∷◌}
use mathlib.Core.Path.{◌≡◌, refl, ◌∙◌, ap}
use Prim.Native.Nat.{ℕ, zero, suc, ◌+◌, ◌*◌, ◌≤◌, ◌<◌}
use native.Mathlib.Omega.{arith}
use lib.Dec.{T, eqb, ltb}
use lib.ListN.{length}
use borrow.Author.Tests.{ltb-true, lt-ltb, le-ltb}
use Rattle.cells.specs.Words.{pick}
use Rattle.format.specs.Syntax as Syntax
use Rattle.format.specs.Syntax.{QueryStmt}
use Rattle.format.specs.Conditions.{all_below}
use Rattle.format.specs.References.{field_values, stmt_nodes}
use Rattle.format.specs.Frame.{got, field, choice, entry}
use Rattle.format.specs.Frame as Frame
use Rattle.sigla_hex.specs.Digits.{digits_w, half_at}
use Rattle.tree.specs.declared.items.Items.{Items}
use Rattle.tree.specs.declared.Stmt.TheVariants as Stmt
use Rattle.tree.specs.Nodes.{lower_w, field_w, field_of, fields_from, item_w, items_from, stmt_of, stmt_w, stmt_size_w, statement, stmts_from}
use Rattle.tree.proofs.Lowering.{lower_stays}
use Rattle.tree.proofs.Readers.{Stand, Ran, Reads, no_got, reads_one, reads_pair, reads_two, Listed}

-- ---- All below

module _ (n x : ℕ) (xs : List ℕ) where
  pub first_below : T (all_below n (x ∷ xs)) → x < n
  unfolding all_below
  first_below h = go (ltb x n) refl
    where
      go : (t : Bool) → ltb x n ≡ t → x < n
      go true e = ltb-true x n e
      go false e = absurd (rw e at h)

  pub others_below : T (all_below n (x ∷ xs)) → T (all_below n xs)
  unfolding all_below
  others_below h = go (ltb x n) refl
    where
      go : (t : Bool) → ltb x n ≡ t → T (all_below n xs)
      go true e = rw e at h
      go false e = absurd (rw e at h)

pub below_more : (n m : ℕ) → n ≤ m → (l : List ℕ) → T (all_below n l) → T (all_below m l)
unfolding all_below
below_more n m h [] b = tt
below_more n m h (x ∷ l) b =
    let here : x < m = omega (arith, first_below n x l b) in
    rw (lt-ltb x m here) (below_more n m h l (others_below n x l b))

pub lower_is : {x a : ℕ} (n : ℕ) → x ≡ a → a < n → lower_w x n ≡ a
lower_is {x} {a} n e h = ap (λ y. lower_w y n) e ∙ lower_stays a n h

-- ---- Items and fields

pub items_are : (f : List ℕ) (it : Items) (i end : ℕ) (l : List ℕ) → Listed (λ _. 4) (half_at f) (it.at + 4 * i) end l → T (all_below it.below l)
    → items_from f it i (length l) ≡ l
unfolding items_from item_w
items_are f it i end [] h b = refl
items_are f it i end (a ∷ l) h b =
    let z : it.at + 4 * i + 4 ≡ it.at + 4 * (i + 1) = omega arith in
    let here : item_w f it i ≡ a = lower_is it.below h.0 (first_below it.below a l b) in
    let on = items_are f it (i + 1) end l (rw z at h.2) (others_below it.below a l b) in
    cc

unfoldable pub field_at : List ℕ → ℕ → Syntax.Field
field_at f at = record { name = half_at f at; value = half_at f (at + 4) }

pub reads_field : (f : List ℕ) → Reads f field (λ _. 8) (field_at f)
unfolding field field_at
reads_field f = reads_pair f (λ n value. record { name = n; value = value }) (reads_two f) (reads_two f)

pub fields_are : (f : List ℕ) (it : Items) (i end : ℕ) (l : List Syntax.Field) → Listed (λ _. 8) (field_at f) (it.at + 8 * i) end l
    → T (all_below it.below (field_values l)) → fields_from f it i (length l) ≡ l
unfolding fields_from field_of field_w field_at field_values
fields_are f it i end [] h b = refl
fields_are f it i end (a ∷ l) h b =
    let z : it.at + 8 * i + 8 ≡ it.at + 8 * (i + 1) = omega arith in
    let v : half_at f (it.at + 8 * i + 4) ≡ a.value = ap (λ (e : Syntax.Field). e.value) h.0 in
    let low = lower_stays (half_at f (it.at + 8 * i + 4)) it.below (omega (arith, v, first_below it.below a.value (field_values l) b)) in
    let here : field_of (field_w f it i) ≡ a = ap (λ x. record { name = half_at f (it.at + 8 * i); value = x }) low ∙ h.0 in
    let on = fields_are f it (i + 1) end l (rw z at h.2) (others_below it.below a.value (field_values l) b) in
    cc

-- ---- Statements

unfoldable pub stmt_at : List ℕ → ℕ → QueryStmt
stmt_at f at = statement (stmt_of (digits_w f at) (half_at f (at + 2)) (half_at f (at + 6)))

module _ (f : List ℕ) (at b : ℕ) (s : List ℕ) (e : digits_w f at ≡ b) (a : QueryStmt) (t : List ℕ) where
  -- what comes after the statement's first byte, and how it is joined to it
  tagged : (c : ℕ) (v : ℕ → QueryStmt) → stmt_size_w f at ≡ 2 + c → stmt_at f at ≡ v (at + 2) → Ran f (λ _. c) v (at + 2) s a t
      → Ran f (stmt_size_w f) (stmt_at f) at (b ∷ s) a t
  tagged c v size same ran =
      let z : at + 2 + c ≡ at + stmt_size_w f at = omega (arith, size) in
      record { value = same ∙ ran.value; rest = rw z at ran.rest; long = omega (arith, size, ran.long) }

  module _ (make : ℕ → ℕ → QueryStmt) (st : Stand f (at + 2) s) where
    tagged_pair : stmt_size_w f at ≡ 10 → stmt_at f at ≡ make (half_at f (at + 2)) (half_at f (at + 6)) → Frame.pair make Frame.two Frame.two s ≡ got a t
        → Ran f (stmt_size_w f) (stmt_at f) at (b ∷ s) a t
    tagged_pair size same q =
        let z : at + 6 ≡ at + 2 + 4 = omega arith in
        tagged 8 (λ at. make (half_at f at) (half_at f (at + 4))) size (rw z at same) ((reads_pair f make (reads_two f) (reads_two f)).run (at + 2) s a t st q)

  module _ (make : ℕ → QueryStmt) (st : Stand f (at + 2) s) where
    tagged_one : stmt_size_w f at ≡ 6 → stmt_at f at ≡ make (half_at f (at + 2)) → Frame.one make Frame.two s ≡ got a t
        → Ran f (stmt_size_w f) (stmt_at f) at (b ∷ s) a t
    tagged_one size same q = tagged 4 (λ at. make (half_at f at)) size same ((reads_one f make (reads_two f)).run (at + 2) s a t st q)

pub reads_statement : (f : List ℕ) → Reads f (Frame.choice Frame.statements) (stmt_size_w f) (stmt_at f)
unfolding Frame.statements choice entry stmt_size_w stmt_at stmt_of
reads_statement f = record { run = run }
  where
    by_tag : (at b : ℕ) (s : List ℕ) (a : QueryStmt) (t : List ℕ) → digits_w f at ≡ b → Stand f (at + 2) s
        → (Frame.choice Frame.statements) (b ∷ s) ≡ got a t → Ran f (stmt_size_w f) (stmt_at f) at (b ∷ s) a t
    by_tag at zero s a t e st q = tagged_pair f at 0 s e a t QueryStmt.Bind st (rw e) (rw e) q
    by_tag at (suc zero) s a t e st q = tagged_one f at 1 s e a t QueryStmt.Implicit st (rw e) (rw e) q
    by_tag at (suc (suc zero)) s a t e st q = tagged_one f at 2 s e a t QueryStmt.Negation st (rw e) (rw e) q
    by_tag at (suc (suc (suc zero))) s a t e st q = tagged_pair f at 3 s e a t QueryStmt.Deny st (rw e) (rw e) q
    by_tag at (suc (suc (suc (suc zero)))) s a t e st q = tagged_pair f at 4 s e a t QueryStmt.Compare st (rw e) (rw e) q
    by_tag at (suc (suc (suc (suc (suc b))))) s a t e st q = no_got q

    run : (at : ℕ) (s : List ℕ) (a : QueryStmt) (t : List ℕ) → Stand f at s → (Frame.choice Frame.statements) s ≡ got a t
        → Ran f (stmt_size_w f) (stmt_at f) at s a t
    run at [] a t st q = no_got q
    run at (b ∷ s) a t st q = by_tag at b s a t st.0 st.1 q

pub stmt_size : (f : List ℕ) (at : ℕ) → (6 ≤ stmt_size_w f at) × (stmt_size_w f at ≤ 10)
unfolding stmt_size_w
stmt_size f at = go (eqb (digits_w f at) 1) (eqb (digits_w f at) 2)
  where
    go : (p q : Bool) → (6 ≤ pick p 6 (pick q 6 10)) × (pick p 6 (pick q 6 10) ≤ 10)
    go true q = omega arith
    go false true = omega arith
    go false false = omega arith

pub record LowerStmt (n tag x y : ℕ) (ss : List QueryStmt) : Type 0 where
  pub here : statement (stmt_of tag (lower_w x n) (lower_w y n)) ≡ statement (stmt_of tag x y)
  pub on : T (all_below n (stmt_nodes ss))

lower_stmt : (n tag x y : ℕ) (ss : List QueryStmt) → T (all_below n (stmt_nodes (statement (stmt_of tag x y) ∷ ss))) → LowerStmt n tag x y ss
unfolding stmt_of stmt_nodes
lower_stmt n tag x y ss b = let p = go (eqb tag 0) (eqb tag 1) (eqb tag 2) (eqb tag 3) b in record { here = p.0; on = p.1 }
  where
    of : Bool → Bool → Bool → Bool → ℕ → ℕ → QueryStmt
    of p q r s x y = statement (pick p (Stmt.Bind x y) (pick q (Stmt.Implicit x) (pick r (Stmt.Negation x) (pick s (Stmt.Deny x y) (Stmt.Compare x y)))))

    both_lower : (make : ℕ → ℕ → QueryStmt) → T (all_below n (x ∷ y ∷ stmt_nodes ss))
        → (make (lower_w x n) (lower_w y n) ≡ make x y) × T (all_below n (stmt_nodes ss))
    both_lower make b =
        let more = others_below n x (y ∷ stmt_nodes ss) b in
        let p = lower_stays x n (first_below n x (y ∷ stmt_nodes ss) b) in
        let q = lower_stays y n (first_below n y (stmt_nodes ss) more) in
        (ap (λ z. make z (lower_w y n)) p ∙ ap (make x) q, others_below n y (stmt_nodes ss) more)

    one_lower : (make : ℕ → QueryStmt) → T (all_below n (x ∷ stmt_nodes ss)) → (make (lower_w x n) ≡ make x) × T (all_below n (stmt_nodes ss))
    one_lower make b = (ap make (lower_stays x n (first_below n x (stmt_nodes ss) b)), others_below n x (stmt_nodes ss) b)

    go : (p q r s : Bool) → T (all_below n (stmt_nodes (of p q r s x y ∷ ss)))
        → (of p q r s (lower_w x n) (lower_w y n) ≡ of p q r s x y) × T (all_below n (stmt_nodes ss))
    go true q r s b = both_lower QueryStmt.Bind b
    go false true r s b = one_lower QueryStmt.Implicit b
    go false false true s b = one_lower QueryStmt.Negation b
    go false false false true b = both_lower QueryStmt.Deny b
    go false false false false b = both_lower QueryStmt.Compare b

-- ---- The statements up to an end

module _ (f : List ℕ) (end below : ℕ) where
  pub stmts_done : (k at : ℕ) → end ≤ at → stmts_from k f at end below ≡ []
  unfolding stmts_from
  stmts_done zero at h = refl
  stmts_done (suc k) at h = rw (le-ltb at end h, stmts_from)

  pub stmts_next : (k at : ℕ) → at < end → stmts_from (suc k) f at end below ≡ statement (stmt_w f at below) ∷ stmts_from k f (at + stmt_size_w f at) end below
  unfolding stmts_from
  stmts_next k at h = rw (lt-ltb at end h, stmts_from)

  pub stmts_are : (k at : ℕ) (l : List QueryStmt) → Listed (stmt_size_w f) (stmt_at f) at end l → end ≤ at + k → T (all_below below (stmt_nodes l))
      → stmts_from k f at end below ≡ l
  unfolding stmt_w stmt_at
  stmts_are k at [] h e b = stmts_done k at (omega (arith, h))
  stmts_are zero at (a ∷ l) h e b = absurd (omega (arith, h.1))
  stmts_are (suc k) at (a ∷ l) h e b =
      let low = lower_stmt below (digits_w f at) (half_at f (at + 2)) (half_at f (at + 6)) l (rw h.0 b) in
      let here : statement (stmt_w f at below) ≡ a = low.here ∙ h.0 in
      let on = stmts_are k (at + stmt_size_w f at) l h.2 (omega (arith, (stmt_size f at).0)) low.on in
      stmts_next k at h.1 ∙ ap (λ s. s ∷ stmts_from k f (at + stmt_size_w f at) end below) here ∙ ap (λ m. a ∷ m) on
