use borrow.Author.Rules.{rules}
use Rattle.frames.specs.Promises.{edition_of}
use mathlib.Core.Path.{◌≡◌, refl, sym, ap, ◌∙◌}
use mathlib.Core.Logic.{◌⊎◌, inl, inr}
use native.Mathlib.Omega.{arith}
use lib.Dec.{ltb}
use Rattle.std.proofs.lemmas.Result.{err_from_is_err_and}
use Rattle.reading.proofs.Marking.{told_there, told_missing, told_by, missing, all_there}
use Rattle.reading.proofs.Referring.{all_names, all_fields_lem, all_no_name, all_named, all_value, all_fact, all_items, all_no_head, all_subquery, all_none}
use Rattle.reading.proofs.Referring.{six_or_seven, cut_pieces}
use Rattle.reading.proofs.nodes.name_all.Goals as goal
use Rattle.reading.proofs.nodes.name_all.Goals.{in-3-1, in_default+else-this-lt6+then-this-lt8}

pub returns-in_err-check_name-in-9 : goal.returns-in_err-check_name-in-9
returns-in_err-check_name-in-9 c =
    let m = told_missing c.in_err-check_name-in-9.ensures refl in
    let p = err_from_is_err_and c.from_residual.result c.from_residual.ensures.1 in
    rw (p.1, p.2) (missing m.0 (all_no_name _ c.args.s.now _ _ _ c.requires (rw c.byte.ensures.0 at c.in-9.is) (rw c.half.ensures.0 at m.1)))

pub returns-in_err-name_node-in-12 : goal.returns-in_err-name_node-in-12
returns-in_err-name_node-in-12 c =
    let m = told_missing c.in_err-name_node-in-12.ensures refl in
    let p = err_from_is_err_and c.from_residual-in_err-name_node-in-12.result c.from_residual-in_err-name_node-in-12.ensures.1 in
    rw (p.1, p.2) (missing m.0 (all_no_head _ c.args.s.now _ _ _ c.requires (sym c.byte.ensures.0 ∙ c.in-12.is) _ (rw c.half-in-12.ensures.0 at m.1)))

pub returns-in-8 : goal.returns-in-8
returns-in-8 c = told_by
    (λ b n. all_fields_lem _ c.args.s.now _ _ _ c.requires (sym c.byte.ensures.0 ∙ c.in-8.is) _ b
    (rw (cut_pieces (edition_of c.args.edition) c.args.s.now c.args.w.now c.args.c.names c.args.c.nodes c.requires 4 _ _ c.past-rest.ensures
    c.as_chunks.ensures.front) at n)) c.name_fields.ensures

pub returns-in_ok-check_name-in-9 : goal.returns-in_ok-check_name-in-9
returns-in_ok-check_name-in-9 c =
    let h = told_there c.in_ok-check_name-in-9.ensures refl in
    told_by (λ b n. all_named _ c.args.s.now _ _ _ c.requires (rw c.byte.ensures.0 at c.in-9.is) (rw c.half.ensures.0 at h) _ b (rw c.half-in-9.ensures.0 at n))
    c.name_node.ensures

pub returns-in-10 : goal.returns-in-10
returns-in-10 c = told_by (λ b n. all_value _ c.args.s.now _ _ _ c.requires (sym c.byte.ensures.0 ∙ c.in-10.is) _ b (rw c.half-in-10.ensures.0 at n))
    c.name_node-in-10.ensures

pub returns-in-11 : goal.returns-in-11
returns-in-11 c = told_by
    (λ b n. all_items _ c.args.s.now _ _ _ c.requires (rw c.byte.ensures.0 at c.in-11.is) _ b
    (rw (cut_pieces (edition_of c.args.edition) c.args.s.now c.args.w.now c.args.c.names c.args.c.nodes c.requires 2 _ _ c.past-rest.ensures
    c.as_chunks-in-11.ensures.front) at n)) c.name_items.ensures

pub returns-in_ok-name_node-in-12 : goal.returns-in_ok-name_node-in-12
returns-in_ok-name_node-in-12 c =
    let h = told_there c.in_ok-name_node-in-12.ensures refl in
    told_by (λ b n. all_subquery _ c.args.s.now _ _ _ c.requires (sym c.byte.ensures.0 ∙ c.in-12.is) _ (rw c.half-in-12.ensures.0 at h) _ b
    (rw c.past.ensures at n))
    c.name_statements.ensures

pub returns-in-13 : goal.returns-in-13
returns-in-13 c = told_by
    (λ b n. all_fact _ c.args.s.now _ _ _ c.requires (sym c.byte.ensures.0 ∙ c.in-13.is) _ c.reference_size.ensures.0 _ b (rw c.half-in-13.ensures.0 at n))
    c.name_node-in-13.ensures

pub returns-in_default : goal.returns-in_default
returns-in_default c =
    let pair : (c.byte.result ≡ 9) ⊎ (c.byte.result ≡ 16) → ⊥ = search rules in
    let items : (c.byte.result ≡ 11) ⊎ (c.byte.result ≡ 14) → ⊥ = search rules in
    let eq = c.byte.ensures.0 in
    all_there (all_none _ c.args.s.now _ _ _ c.requires (λ q. omega (arith, c.byte.ensures.0)) (λ q. omega (arith, c.byte.ensures.0))
    (λ q. omega (arith, c.byte.ensures.0)) (λ q. omega (arith, c.byte.ensures.0)) (λ q. pair (inl (eq ∙ q))) (λ q. omega (arith, c.byte.ensures.0))
    (λ q. items (inl (eq ∙ q))) (λ q. omega (arith, c.byte.ensures.0)) (λ q. omega (arith, c.byte.ensures.0)) (λ q. items (inr (eq ∙ q)))
    (λ q. pair (inr (eq ∙ q))))

pub returns-in_default-2 : goal.returns-in_default-2
returns-in_default-2 c =
    let pair : (c.byte.result ≡ 9) ⊎ (c.byte.result ≡ 16) → ⊥ = search rules in
    let items : (c.byte.result ≡ 11) ⊎ (c.byte.result ≡ 14) → ⊥ = search rules in
    let eq = c.byte.ensures.0 in
    all_there (all_none _ c.args.s.now _ _ _ c.requires (λ q. omega (arith, c.byte.ensures.0)) (λ q. omega (arith, c.byte.ensures.0))
    (λ q. omega (arith, c.byte.ensures.0)) (λ q. omega (arith, c.byte.ensures.0)) (λ q. pair (inl (eq ∙ q))) (λ q. omega (arith, c.byte.ensures.0))
    (λ q. items (inl (eq ∙ q))) (λ q. omega (arith, c.byte.ensures.0)) (λ q. omega (arith, c.byte.ensures.0)) (λ q. items (inr (eq ∙ q)))
    (λ q. pair (inr (eq ∙ q))))

pub returns-in-3 : goal.returns-in-3
returns-in-3 c = told_by
    (λ b n. all_names _ c.args.s.now _ _ _ c.requires
    (elim c.in-3-1.branch [
      | in-3-1 w ↦ inl (omega (arith, c.byte.ensures.0))
      | in_default+else-this-lt6+then-this-lt8 w ↦ inr (six_or_seven _ (omega (arith, c.byte.ensures.0)) (omega (arith, c.byte.ensures.0)))
    ])
    b (n ∙ ap (λ n. ltb n c.args.c.names) c.half-in-3.ensures.0)) c.check_name-in-3.ensures
