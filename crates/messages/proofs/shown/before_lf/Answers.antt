-- The place of LF, and else the length.
use Rattle.std.proofs.Common.{ℕ, ◌≡◌, ◌==◌, ◌≤◌, Bool, length, take, cond, nat_lt, List, Some, None, ap, ◌∙◌, not, rules, arith}
use Rattle.std.proofs.lemmas.Iterator.{YieldsList-from_slice}
use Rattle.std.proofs.lemmas.Iterator.Search.{position_from_yields_List}
use Rattle.std.proofs.lemmas.List.Sums.{prefix_len-le-length}
use Rattle.std.specs.List.{position, position_or_len}
use Rattle.std.specs.Option.{unwrap_or}
use borrow.Author.Tests.{tests}
use Rattle.messages.proofs.shown.before_lf.Goals as goal

else_all : (n k : ℕ) → n ≤ k → unwrap_or (cond (nat_lt n k) (Some n) None) k ≡ n
else_all n k h = grind (arith, tests)

ends : (p : ℕ → Bool) (s : List ℕ) → unwrap_or (position p s) (length s) ≡ position_or_len p s
ends p s = else_all _ _ (prefix_len-le-length (λ x. not (p x)) s)

pub returns : goal.returns
returns c =
    let e = position_from_yields_List (λ b. b == 10) _ _ c.position.result c.position.ensures.ran (YieldsList-from_slice c.args.s.now cc)
    (λ x b q k. search (rules, tests)) in
    ap (λ n. take n c.args.s.now) (c.unwrap_or-end.ensures ∙ rw e (ends (λ b. b == 10) c.args.s.now))
