-- What all the nodes of a query weigh. The weights of nodes of which none is named by a node below k come to at most what the
-- first k nodes weigh by themselves: the highest of them is replaced by what it names, and so on down. Each node is named
-- once, so no two of the list that arises are the same.
use mathlib.Core.List.{List, [], ◌∷◌, ◌++◌, flat_map}
use mathlib.Core.Logic.{◌⊎◌, inl, inr, ⊎_elim, by_cases}
use mathlib.Core.Path.{◌≡◌, refl, sym, ◌∙◌, ap}
use Prim.Native.Nat.{ℕ, zero, suc, ◌+◌, ◌≤◌, ◌<◌}
use native.Mathlib.Decide.{ℕ_discrete}
use native.Mathlib.Omega.{arith}
use lib.ListN.{length, get_or, length-map}
use Rattle.format.specs.Syntax.{ExprKind, Node, no_node, node_at}
use Rattle.format.specs.References.{field_values, expr_nodes}
use Rattle.format.specs.All.{All, Absent, Distinct}
use Rattle.format.specs.Sound.{nodes_named}
use Rattle.meaning.specs.Weights.{same, sum_of, total, weight, size, records_of, records, fields_of, record_fields}
use Rattle.format.proofs.Lists.{all_map, all_append, all_left, all_right}
use Rattle.meaning.proofs.Depth.{Falls}
use Rattle.meaning.proofs.Steps.{same_self, same_other}

-- ---- Sums over lists
pub sum_of_append : (f : ℕ → ℕ) (s t : List ℕ) → sum_of f (s ++ t) ≡ sum_of f s + sum_of f t
unfolding sum_of
sum_of_append f [] t = omega arith
sum_of_append f (n ∷ s) t = omega (arith, sum_of_append f s t)

sum_of_alike : (f g : ℕ → ℕ) (s : List ℕ) → All (λ n. f n ≡ g n) s → sum_of f s ≡ sum_of g s
unfolding sum_of
sum_of_alike f g [] h = refl
sum_of_alike f g (n ∷ s) h = omega (arith, h.0, sum_of_alike f g s h.1)

-- How often a number stands in a list.
abbrev pub times : ℕ → List ℕ → ℕ
times x s = sum_of (λ n. same x n) s

-- ---- Weights do not depend on the depth
module _ (nodes : List Node) (falls : Falls nodes) (own : ℕ → ℕ) where
  pub weight_depth : (d e n : ℕ) → n < d → n < e → weight nodes own d n ≡ weight nodes own e n
  unfolding weight Falls
  weight_depth zero e n p q = absurd (omega arith)
  weight_depth (suc d) zero n p q = absurd (omega arith)
  weight_depth (suc d) (suc e) n p q =
      ap (λ s. own n + s) (sum_of_alike (λ m. weight nodes own d m) (λ m. weight nodes own e m) (expr_nodes (node_at nodes n).kind)
      (all_map (λ m. m < n) (λ m. weight nodes own d m ≡ weight nodes own e m) (expr_nodes (node_at nodes n).kind)
      (λ m l. weight_depth d e m (omega arith) (omega arith)) (falls n)))

  -- A node weighs its own and what its parts weigh, at any depth above it.
  pub weight_parts : (d n : ℕ) → n < d → weight nodes own d n ≡ own n + sum_of (λ m. weight nodes own d m) (expr_nodes (node_at nodes n).kind)
  weight_parts d n p = weight_depth d (suc d) n p (omega arith) ∙ step
    where
      step : weight nodes own (suc d) n ≡ own n + sum_of (λ m. weight nodes own d m) (expr_nodes (node_at nodes n).kind)
      step = unfold weight in refl

-- ---- Each node named once

-- A number found in a list, or not in it.
find : (k : ℕ) (s : List ℕ) → ((a : List ℕ) × (b : List ℕ) × (s ≡ a ++ k ∷ b)) ⊎ (times k s ≡ 0)
unfolding sum_of
find k [] = inr refl
find k (n ∷ s) = by_cases (ℕ_discrete k n)
    (λ p. inl ([], s, ap (λ m. m ∷ s) (sym p)))
    (λ p. ⊎_elim (λ i. inl (n ∷ i.0, i.1, ap {B = List ℕ} (λ r. n ∷ r) i.2)) (λ e. inr (omega (arith, same_other k n p))) (find k s))

-- Below suc k and never k is below k.
below_other : (k : ℕ) (s : List ℕ) → All (λ m. m < suc k) s → times k s ≡ 0 → All (λ m. m < k) s
unfolding sum_of
below_other k [] h e = tt
below_other k (m ∷ s) h e = (
  by_cases (ℕ_discrete k m) (λ p. let q : same k m ≡ 1 = ap (same k) (sym p) ∙ same_self k in absurd (omega arith))
      (λ p. omega (arith, h.0)),
  below_other k s h.1 (omega arith),
)

-- How often the first k nodes name a number.
abbrev pub namings : List Node → ℕ → ℕ → ℕ
namings nodes x k = total (λ i. times x (expr_nodes (node_at nodes i).kind)) k

module _ (nodes : List Node) (falls : Falls nodes) (own : ℕ → ℕ) (d : ℕ) where
  abbrev heavy : List ℕ → ℕ
  heavy s = sum_of (λ m. weight nodes own d m) s

  -- k in the list, replaced by what it names.
  in_place_lem : (k : ℕ) (a b : List ℕ) → k < d → All (λ m. m < suc k) (a ++ k ∷ b) → ((x : ℕ) → times x (a ++ k ∷ b) + namings nodes x (suc k) ≤ 1)
      → ((t : List ℕ) → All (λ m. m < k) t → ((x : ℕ) → times x t + namings nodes x k ≤ 1) → heavy t ≤ total own k) → heavy (a ++ k ∷ b) ≤ total own (suc k)
  unfolding total sum_of Falls
  in_place_lem k a b lt h once ih =
      let w : ℕ → ℕ = λ m. weight nodes own d m in
      let parts = expr_nodes (node_at nodes k).kind in
      let alone : times k a + times k b ≡ 0 = omega (arith, once k, same_self k, sum_of_append (λ n. same k n) a (k ∷ b)) in
      let below : All (λ m. m < k) (a ++ (parts ++ b)) = all_append (λ m. m < k) a (parts ++ b)
      (below_other k a (all_left (λ m. m < suc k) a (k ∷ b) h) (omega arith))
      (all_append (λ m. m < k) parts b (falls k) (below_other k b (all_right (λ m. m < suc k) a (k ∷ b) h).1 (omega arith))) in
      omega (
        arith,
        ih (a ++ (parts ++ b)) below (λ x. omega (
          arith,
          once x,
          sum_of_append (λ n. same x n) a (k ∷ b),
          sum_of_append (λ n. same x n) a (parts ++ b),
          sum_of_append (λ n. same x n) parts b,
        )),
        sum_of_append w a (k ∷ b),
        sum_of_append w a (parts ++ b),
        sum_of_append w parts b,
        weight_parts nodes falls own d k lt,
      )

  pub weight_once : (k : ℕ) → k ≤ d → (s : List ℕ) → All (λ m. m < k) s → ((x : ℕ) → times x s + namings nodes x k ≤ 1) → heavy s ≤ total own k
  unfolding total sum_of
  weight_once zero le [] h once = omega arith
  weight_once zero le (m ∷ s) h once = absurd (omega (arith, h.0))
  weight_once (suc k) le s h once = ⊎_elim
      (λ i. rw i.2 (in_place_lem k i.0 i.1 (omega arith) (rw i.2 at h) (λ x. rw i.2 at (once x)) (λ t a o. weight_once k (omega arith) t a o)))
      (λ e. omega (arith, weight_once k (omega arith) s (below_other k s h e) (λ x. omega (arith, once x))))
      (find k s)

-- ---- From what a file that passes obeys
distinct_times : (x : ℕ) (s : List ℕ) → Distinct s → times x s ≤ 1
unfolding sum_of
distinct_times x [] h = omega arith
distinct_times x (n ∷ s) h = by_cases (ℕ_discrete x n)
    (λ p. omega (arith, ap (same x) (sym p) ∙ same_self x, absent s (rw (← p) at h.0)))
    (λ p. omega (arith, same_other x n p, distinct_times x s h.1))
  where
    absent : (s : List ℕ) → Absent x s → times x s ≡ 0
    absent [] h = refl
    absent (n ∷ s) h = omega (arith, same_other x n h.0, absent s h.1)

total_first : (f : ℕ → ℕ) (k : ℕ) → total f (suc k) ≡ f 0 + total (λ i. f (suc i)) k
unfolding total
total_first f zero = refl
total_first f (suc k) = omega (arith, total_first f k)

named_times : (x : ℕ) (nodes : List Node) → times x (nodes_named nodes) ≡ total (λ i. times x (expr_nodes (get_or nodes i no_node).kind)) (length nodes)
unfolding nodes_named flat_map sum_of total
named_times x [] = refl
named_times x (n ∷ nodes) =
    sum_of_append (λ m. same x m) (expr_nodes n.kind) (flat_map (λ n. expr_nodes n.kind) nodes)
    ∙ ap (λ r. times x (expr_nodes n.kind) + r) (named_times x nodes)
    ∙ sym (total_first (λ i. times x (expr_nodes (get_or (n ∷ nodes) i no_node).kind)) (length nodes))

-- Each node named once, by the nodes and by this list.
pub once_times : (nodes : List Node) (s : List ℕ) → Distinct (nodes_named nodes ++ s) → (x : ℕ) → times x s + namings nodes x (length nodes) ≤ 1
unfolding node_at
once_times nodes s h x = omega (arith, distinct_times x (nodes_named nodes ++ s) h, sum_of_append (λ m. same x m) (nodes_named nodes) s, named_times x nodes)

-- ---- Totals
pub total_ones : (k : ℕ) → total (λ i. 1) k ≡ k
unfolding total
total_ones zero = refl
total_ones (suc k) = omega (arith, total_ones k)

-- A number stands once among the first k, and from k on not at all.
pub total_past : (x k : ℕ) → k ≤ x → total (λ i. same x i) k ≡ 0
unfolding total
total_past x zero h = refl
total_past x (suc k) h = omega (arith, same_other x k (omega arith), total_past x k (omega arith))

pub total_same : (x k : ℕ) → total (λ i. same x i) k ≤ 1
unfolding total
total_same x zero = omega arith
total_same x (suc k) = by_cases (ℕ_discrete x k)
    (λ p. omega (arith, ap (same x) (sym p) ∙ same_self x, total_past x k (omega (arith, p))))
    (λ p. omega (arith, same_other x k p, total_same x k))

-- ---- Weights of kinds

-- By a greater weight of each a node weighs more.
pub weight_more : (nodes : List Node) (f g : ℕ → ℕ) → ((n : ℕ) → f n ≤ g n) → (d n : ℕ) → weight nodes f d n ≤ weight nodes g d n
unfolding weight
weight_more nodes f g h zero n = h n
weight_more nodes f g h (suc d) n = omega (arith, h n, sums (expr_nodes (node_at nodes n).kind) (λ m. weight_more nodes f g h d m))
  where
    sums : (s : List ℕ) → ((m : ℕ) → weight nodes f d m ≤ weight nodes g d m) → sum_of (λ m. weight nodes f d m) s ≤ sum_of (λ m. weight nodes g d m) s
    sums [] ih = omega arith
    sums (m ∷ s) ih = omega (arith, ih m, sums s ih)

-- A record's fields are among the nodes that it names.
fields_parts : (k : ExprKind) → fields_of k ≤ length (expr_nodes k)
unfolding fields_of expr_nodes field_values
fields_parts (ExprKind.Record fs) = omega (arith, length-map fs (λ f. f.value))
fields_parts (ExprKind.Lit l) = omega arith
fields_parts (ExprKind.Var x) = omega arith
fields_parts ExprKind.Wildcard = omega arith
fields_parts ExprKind.Never = omega arith
fields_parts (ExprKind.Prefix x) = omega arith
fields_parts (ExprKind.Fuzzy x d) = omega arith
fields_parts (ExprKind.Access f e) = omega arith
fields_parts (ExprKind.Disjunction es) = omega arith
fields_parts (ExprKind.Subquery q) = omega arith
fields_parts (ExprKind.Fact p e) = omega arith
fields_parts (ExprKind.Arith es) = omega arith
fields_parts ExprKind.Error = omega arith
fields_parts (ExprKind.Select x e) = omega arith

records_of_one : (k : ExprKind) → records_of k ≤ 1
unfolding records_of
records_of_one (ExprKind.Record fs) = omega arith
records_of_one (ExprKind.Lit l) = omega arith
records_of_one (ExprKind.Var x) = omega arith
records_of_one ExprKind.Wildcard = omega arith
records_of_one ExprKind.Never = omega arith
records_of_one (ExprKind.Prefix x) = omega arith
records_of_one (ExprKind.Fuzzy x d) = omega arith
records_of_one (ExprKind.Access f e) = omega arith
records_of_one (ExprKind.Disjunction es) = omega arith
records_of_one (ExprKind.Subquery q) = omega arith
records_of_one (ExprKind.Fact p e) = omega arith
records_of_one (ExprKind.Arith es) = omega arith
records_of_one ExprKind.Error = omega arith
records_of_one (ExprKind.Select x e) = omega arith

pub records_size : (nodes : List Node) (d n : ℕ) → records nodes d n ≤ size nodes d n
records_size nodes d n = weight_more nodes (λ m. records_of (node_at nodes m).kind) (λ m. 1) (λ m. records_of_one (node_at nodes m).kind) d n

-- Each field is a node under the record.
pub fields_size : (nodes : List Node) → Falls nodes → (d n : ℕ) → n < d → record_fields nodes d n + 1 ≤ size nodes d n
unfolding weight Falls sum_of
fields_size nodes falls zero n p = absurd (omega arith)
fields_size nodes falls (suc d) n p = omega
    (arith, fields_parts (node_at nodes n).kind, sums (expr_nodes (node_at nodes n).kind) (falls n) (λ m l. fields_size nodes falls d m (omega arith)))
  where
    sums : (s : List ℕ) → All (λ m. m < n) s → ((m : ℕ) → m < n → record_fields nodes d m + 1 ≤ size nodes d m)
        → sum_of (λ m. record_fields nodes d m) s + length s ≤ sum_of (λ m. size nodes d m) s
    sums [] h ih = omega arith
    sums (m ∷ s) h ih = omega (arith, ih m h.0, sums s h.1 ih)
