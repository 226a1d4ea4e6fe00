use Rattle.std.proofs.Common.{◌≡◌, slice_range, rules, tests}
use Rattle.cabinet.proofs.Checking.{valid_when, tested}
use Rattle.cabinet.proofs.Group.is_valid.Goals as goal

pub returns-then-are_within_caps : goal.returns-then-are_within_caps
returns-then-are_within_caps c =
    let g = c.args.self.now in
    let e : c.in-Some.desks.now ≡ slice_range g.desks 0 g.count = search rules in (
      λ t. valid_when g _ e (search rules) (search rules) (record { some = search rules; caps = search rules; held = search (rules, tests) }),
      λ v. let w = tested g _ e (search rules) (search rules) v in search (rules, tests),
    )

pub returns-else-are_within_caps : goal.returns-else-are_within_caps
returns-else-are_within_caps c =
    let g = c.args.self.now in
    let e : c.in-Some.desks.now ≡ slice_range g.desks 0 g.count = search rules in
    (λ t. absurd (cc), λ v. let w = tested g _ e (search rules) (search rules) v in search rules)
