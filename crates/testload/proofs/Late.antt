-- The rule reads no word before the 56th: word lists that are alike from there on make the same content. And which word each choice and each
-- span is, computed.
use mathlib.Core.List.{List, [], ◌∷◌, ◌++◌, map}
use mathlib.Core.Path.{◌≡◌, refl, ap, ap₂, ◌∙◌}
use Prim.Native.Nat.{ℕ, ◌+◌, ◌*◌, ◌/◌}
use native.Mathlib.Omega.{arith}
use lib.ListN.{get_or}
use Rattle.std.specs.Prelude.{replicate, None}
use Rattle.format.specs.Frame.{a_record}
use Rattle.testload.specs.Words.{AlikeFrom56}
use Rattle.testload.specs.Rule.{limit, limits, base, simple, compound, predicates, predicate, queries, counts, from, choice}
use Rattle.testload.specs.Rule.{exprs, expr_at, node_of, no_plan, plan_of, query_of, limits_of, simple_of, compound_of, predicate_of, count_of, content_of}

map_alike : {A B : Type 0} (f g : A → B) → ((a : A) → f a ≡ g a) → (l : List A) → map f l ≡ map g l
map_alike f g h [] = refl
map_alike f g h (a ∷ l) = ap₂ (λ b bs. b ∷ bs) (h a) (map_alike f g h l)

module _ (ws us : List ℕ) (same : AlikeFrom56 ws us) where
  choices : (c : ℕ) → choice ws c ≡ choice us c
  unfolding choice
  choices c = ap (λ w. w / 0x1000_0000) (same (1280 + c) (omega arith))

  nodes : (q i : ℕ) → node_of ws q i ≡ node_of us q i
  unfolding node_of expr_at exprs
  nodes q i = ap₂ (λ s k. record { span = s; kind = k })
      (ap₂ (λ a b. record { start = a; end = b }) (same (55 + 64 * q + 2 * i) (omega arith)) (same (56 + 64 * q + 2 * i) (omega arith)))
      (ap (expr_at ws i) (choices (33 + 32 * q + i)))

  plans : (q : ℕ) → plan_of ws q ≡ plan_of us q
  unfolding plan_of no_plan
  plans q = ap (λ c. get_or queries c (no_plan ws)) (choices (32 + 32 * q))

  trees : (q : ℕ) → query_of ws q ≡ query_of us q
  unfolding query_of
  trees q =
      ap (λ ns. record { nodes = ns; query = (plan_of ws q).query }) (map_alike (node_of ws q) (node_of us q) (nodes q) (from 0 (8 * (plan_of ws q).blocks)))
      ∙ ap (λ p. record { nodes = map (node_of us q) (from 0 (8 * p.blocks)); query = p.query }) (plans q)

  simples : (l : ℕ) → simple_of ws l ≡ simple_of us l
  unfolding simple_of
  simples l = ap (λ c. get_or simple c (a_record [])) (choices l)

  compounds : (l : ℕ) → compound_of ws l ≡ compound_of us l
  unfolding compound_of
  compounds l = ap (λ c. get_or compound c (a_record [])) (choices l)

  predicates_lem : (l : ℕ) → predicate_of ws l ≡ predicate_of us l
  unfolding predicate_of
  predicates_lem l = ap (λ c. get_or predicates c (predicate 0 0 None)) (choices l)

  bounds : limits_of ws ≡ limits_of us
  unfolding limits_of
  bounds = ap (λ c. get_or limits c (limit 0 0)) (choices 0)

  numbers : count_of ws ≡ count_of us
  unfolding count_of
  numbers = ap (λ c. get_or counts c 1) (choices 27)

  pub late_words : content_of ws ≡ content_of us
  unfolding content_of
  late_words =
      let types = ap₂ (λ a b. base ++ (a ++ b)) (map_alike (simple_of ws) (simple_of us) simples (from 17 3))
      (map_alike (compound_of ws) (compound_of us) compounds (from 20 3)) in
      let keyed = map_alike (predicate_of ws) (predicate_of us) predicates_lem (from 23 4) in
      let asked = map_alike (query_of ws) (query_of us) trees (from 0 (count_of ws)) ∙ ap (λ n. map (query_of us) (from 0 n)) numbers in
      rw (bounds, types, keyed, asked) refl

-- ---- Computed

-- choice c is the four high bits of the word at 1280 + c
first_choice : choice (replicate 1280 0 ++ 0xf765_4321 ∷ 0x1fff_ffff ∷ []) 0 ≡ 15
unfolding choice
first_choice = refl

second_choice : choice (replicate 1280 0 ++ 0xf765_4321 ∷ 0x1fff_ffff ∷ []) 1 ≡ 1
unfolding choice
second_choice = refl

-- Where each word is its place: the spans of the first node and of node 3 of query 1.
first_span : (node_of (from 0 1440) 0 0).span ≡ record { start = 55; end = 56 }
unfolding node_of from
first_span = refl

other_span : (node_of (from 0 1440) 1 3).span ≡ record { start = 125; end = 126 }
unfolding node_of from
other_span = refl
