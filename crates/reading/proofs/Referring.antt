-- What a node's frame refers to is there and is marked, shape by shape.
use mathlib.Core.Bool.{Bool, true, false}
use mathlib.Core.List.{List, [], ◌∷◌}
use mathlib.Core.Logic.{◌⊎◌, inl, inr, ⊎_elim}
use mathlib.Core.Path.{◌≡◌, ap, subst, ◌∙◌}
use Prim.Native.Nat.{ℕ, ◌<◌, ◌≤◌, ◌+◌, ◌-◌, ◌/◌}
use native.Mathlib.Omega.{arith}
use lib.Dec.{eqb, ltb}
use lib.ListN.{length, drop, length-drop}
use borrow.Author.Tests.{ltb-true, ltb-false, eqb-true, eqb-false}
use Rattle.format.specs.Syntax.{Node}
use Rattle.format.specs.Frame as Frame
use Rattle.format.specs.Frame.{a_node, frame_of}
use Rattle.format.specs.References.{stmt_nodes}
use Rattle.format.proofs.Tests.{cases}
use Rattle.frames.specs.Promises.{byte_w, half_w, reference_size}
use Rattle.std.specs.Simd.{first_chunks}
use Rattle.reading.specs.Marks.{Refers, NamesNode, NamesFields, NamesItems, NamesStatements, NamesAll}
use Rattle.reading.proofs.Marking.{refers_none, refers_name, refers_then, refers_stop}
use Rattle.reading.proofs.Refs.{RefsAre, plain_refs, var_refs, prefix_refs, fuzzy_refs, key_refs, value_refs, fact_refs, select_refs, error_refs}
use Rattle.reading.proofs.Refs.{wildcard_refs, never_refs, no_refs, record_refs, branches_refs, operands_refs, subquery_refs}
use Rattle.format.specs.Frame.{Edition}
use Rattle.std.specs.Prelude.{Some}

module _ (ed : Edition) (s w : List ℕ) (names nodes : ℕ) (long : 10 ≤ length s) where
  -- the bytes from 10 on in pieces of n
  abbrev pub pieces : ℕ → List (List ℕ)
  pieces n = first_chunks n ((length s - 10) / n) (drop 10 s)

  -- which are those that the code cuts
  pub cut_pieces : (n : ℕ) (t : List ℕ) (parts : List (List ℕ)) → t ≡ drop 10 s → parts ≡ first_chunks n (length t / n) t → parts ≡ pieces n
  cut_pieces n t parts q e = e ∙ ap (λ l. first_chunks n (length l / n) l) q ∙ ap (λ m. first_chunks n (m / n) (drop 10 s)) (length-drop 10 s)

  -- what the frame refers to is these
  all_by : (xs ns v : List ℕ) (r : Bool) → ((nd : Node) → frame_of ed Frame.node (drop 1 s) ≡ Some (a_node nd) → RefsAre nd.kind xs ns)
      → Refers w names xs nodes ns v r → NamesAll ed s w names nodes v r
  all_by xs ns v r a q = record { is = λ nd e. let p = a nd e in rw (p.names, p.nodes) q }

  pub all_names : (byte_w s 9 ≡ 3) ⊎ ((byte_w s 9 ≡ 6) ⊎ (byte_w s 9 ≡ 7)) → (r : Bool) → r ≡ ltb (half_w s 10) names → NamesAll ed s w names nodes w r
  all_names b r e = all_by (half_w s 10 ∷ []) [] w r
      (λ nd f. ⊎_elim (var_refs ed s nd long f) (⊎_elim (prefix_refs ed s nd long f) (fuzzy_refs ed s nd long f)) b)
      (refers_name names nodes w (half_w s 10) r e)

  pub all_fields_lem : byte_w s 9 ≡ 8 → (v : List ℕ) (r : Bool) → NamesFields (pieces 4) w names nodes v r → NamesAll ed s w names nodes v r
  all_fields_lem b v r n = record { is = λ nd f. let k = record_refs ed s nd long f b in rw (k.names, k.nodes) n }

  module _ (b : (byte_w s 9 ≡ 9) ⊎ (byte_w s 9 ≡ 16)) where
    both_refs : (nd : Node) → frame_of ed Frame.node (drop 1 s) ≡ Some (a_node nd) → RefsAre nd.kind (half_w s 10 ∷ []) (half_w s 12 ∷ [])
    both_refs nd f = ⊎_elim (key_refs ed s nd long f) (select_refs ed s nd long f) b

    pub all_no_name : false ≡ ltb (half_w s 10) names → NamesAll ed s w names nodes w false
    all_no_name h = all_by (half_w s 10 ∷ []) (half_w s 12 ∷ []) w false both_refs
        (refers_stop names nodes (refers_name names nodes w (half_w s 10) false h) [] (half_w s 12 ∷ []))

    pub all_named : true ≡ ltb (half_w s 10) names → (v : List ℕ) (r : Bool) → NamesNode w (half_w s 12) nodes v r → NamesAll ed s w names nodes v r
    all_named h v r n = all_by (half_w s 10 ∷ []) (half_w s 12 ∷ []) v r both_refs
        (refers_then names nodes (refers_name names nodes w (half_w s 10) true h) (n.is names))

  pub all_value : byte_w s 9 ≡ 10 → (v : List ℕ) (r : Bool) → NamesNode w (half_w s 10) nodes v r → NamesAll ed s w names nodes v r
  all_value b v r n = all_by [] (half_w s 10 ∷ []) v r (λ nd f. value_refs ed s nd long f b) (n.is names)

  pub all_fact : byte_w s 9 ≡ 13 → (n : ℕ) → n ≡ reference_size ed → (v : List ℕ) (r : Bool) → NamesNode w (half_w s (10 + n)) nodes v r
      → NamesAll ed s w names nodes v r
  all_fact b m q v r n = all_by [] (half_w s (10 + reference_size ed) ∷ []) v r (λ nd f. fact_refs ed s nd long f b)
      ((subst (λ k. NamesNode w (half_w s (10 + k)) nodes v r) q n).is names)

  pub all_items : (byte_w s 9 ≡ 11) ⊎ (byte_w s 9 ≡ 14) → (v : List ℕ) (r : Bool) → NamesItems (pieces 2) w nodes v r → NamesAll ed s w names nodes v r
  all_items b v r n = record {
    is = λ nd f. let k = ⊎_elim (branches_refs ed s nd long f) (operands_refs ed s nd long f) b in rw (k.names, k.nodes) (n.is names);
  }

  module _ (b : byte_w s 9 ≡ 12) (v : List ℕ) where
    pub all_no_head : NamesNode w (half_w s 10) nodes v false → NamesAll ed s w names nodes v false
    all_no_head n = record {
      is = λ nd f. let k = subquery_refs ed s nd long f b in rw (k.2.names, k.2.nodes)
          (refers_stop names nodes (n.is names) [] (stmt_nodes k.0));
    }

    pub all_subquery : NamesNode w (half_w s 10) nodes v true → (u : List ℕ) (r : Bool) → NamesStatements (drop 12 s) v nodes u r
        → NamesAll ed s w names nodes u r
    all_subquery n u r m = record {
      is = λ nd f. let k = subquery_refs ed s nd long f b in rw (k.2.names, k.2.nodes)
          (refers_then names nodes (n.is names) (m.is names k.0 k.1));
    }

  -- any other shape refers to nothing
  pub all_none : (byte_w s 9 ≡ 3 → ⊥) → (byte_w s 9 ≡ 6 → ⊥) → (byte_w s 9 ≡ 7 → ⊥) → (byte_w s 9 ≡ 8 → ⊥) → (byte_w s 9 ≡ 9 → ⊥) → (byte_w s 9 ≡ 10 → ⊥)
      → (byte_w s 9 ≡ 11 → ⊥) → (byte_w s 9 ≡ 12 → ⊥) → (byte_w s 9 ≡ 13 → ⊥) → (byte_w s 9 ≡ 14 → ⊥) → (byte_w s 9 ≡ 16 → ⊥)
      → NamesAll ed s w names nodes w true
  all_none a b c d e f g h i j k = record { is = λ nd q. let p = refs nd q in rw (p.names, p.nodes) (refers_none names nodes w) }
    where
      refs : (nd : Node) → frame_of ed Frame.node (drop 1 s) ≡ Some (a_node nd) → RefsAre nd.kind [] []
      refs nd q =
          cases (ltb (byte_w s 9) 3) (λ t. plain_refs ed s nd long q (ltb-true (byte_w s 9) 3 t)) λ l.
          cases (eqb (byte_w s 9) 4) (λ t. wildcard_refs ed s nd long q (eqb-true (byte_w s 9) 4 t)) λ m.
          cases (eqb (byte_w s 9) 5) (λ t. never_refs ed s nd long q (eqb-true (byte_w s 9) 5 t)) λ n.
          cases (eqb (byte_w s 9) 15) (λ t. error_refs ed s nd long q (eqb-true (byte_w s 9) 15 t)) λ o.
          absurd (no_refs ed s nd long q (omega (
            arith,
            ltb-false (byte_w s 9) 3 l,
            eqb-false (byte_w s 9) 4 m,
            eqb-false (byte_w s 9) 5 n,
            eqb-false (byte_w s 9) 15 o,
          )))

pub six_or_seven : (b : ℕ) → 6 ≤ b → b < 8 → (b ≡ 6) ⊎ (b ≡ 7)
six_or_seven b l h = cases (eqb b 6) (λ q. inl (eqb-true b 6 q)) (λ q. let n = eqb-false b 6 q in inr (omega arith))
