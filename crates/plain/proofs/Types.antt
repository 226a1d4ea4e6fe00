-- The first type of a text: what is left after it is what stands behind it.
use Rattle.std.proofs.Common.{List, ◌++◌, ◌≡◌, ℕ, ◌-◌, ◌≤◌, length, take, drop, ap, sym, ◌∙◌, arith, length-append}
use Rattle.std.proofs.lemmas.List.{take-append-drop, take_at, drop_at}
use Rattle.std.specs.Prelude.{None, Some}
use Rattle.unification.specs.Ty.{Ty}
use Rattle.plain_theory.specs.Words.{spelled}
use Rattle.plain.specs.Tokens.{behind, NoType, FirstType}
use Rattle.plain.proofs.Tokens.{behind_none, type_behind, behind_enough}

pub past_type : (t : Ty) (ws : List ℕ) → behind (spelled t ++ ws) 1 ≡ Some ws
past_type t ws = type_behind t ws 0 ∙ behind_none ws

pub no_type : (ws : List ℕ) → behind ws 1 ≡ None → NoType ws
no_type ws q t rest e = let z : Some rest ≡ None = sym (past_type t rest) ∙ ap (λ (l : List ℕ). behind l 1) (sym e) ∙ q in cc

module _ (ws rest : List ℕ) (q : behind ws 1 ≡ Some rest) where
  pub behind_fewer : length rest ≤ length ws
  behind_fewer = let le = rw q at (behind_enough ws 1) in omega (arith, le)

  pub first_type : {a b : List ℕ} → a ≡ take (length ws - length rest) ws → b ≡ drop (length ws - length rest) ws → FirstType ws a b
  first_type {a} {b} front back = record {
    is = λ t vs e.
        let z : Some vs ≡ Some rest = sym (past_type t vs) ∙ ap (λ (l : List ℕ). behind l 1) (sym e) ∙ q in
        let same : vs ≡ rest = cc in
        let long : length (spelled t) ≡ length ws - length rest = omega (arith, ap length e ∙ length-append (spelled t) vs, ap length same) in (
          front ∙ ap (take (length ws - length rest)) e ∙ take_at (spelled t) vs _ long,
          back ∙ ap (drop (length ws - length rest)) e ∙ drop_at
              (spelled t) vs _ long,
        );
    parts = rw (front, back) (sym (take-append-drop (length ws - length rest) ws));
  }
