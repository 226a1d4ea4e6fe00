-- A group is valid by what `is_valid` tests of the list of its desks.
use Rattle.std.proofs.Common.{List, length, get_or, take, slice_range, sum_by, All, ◌≡◌, sym, ℕ, ◌<◌, ◌≤◌, arith}
use Rattle.std.proofs.lemmas.Grind.{common_steps}
use Rattle.std.proofs.lemmas.List.Elements.{All-get_or, All-from_get_or}
use Rattle.std.proofs.lemmas.List.Sums.{sum_by-le-sum_by}
use Rattle.cabinet.specs.declared.Desk.{Desk}
use Rattle.cabinet.specs.declared.Group.{Group}
use Rattle.cabinet.specs.Cabinet.{absent, desk, total, IsWithinCap, larger, Valid}
use Rattle.cabinet.proofs.Totals.{total_taken}

-- What is tested of the list of the desks.
pub record Tested (ds : List Desk) (pool : ℕ) : Type 0 where
  pub some : 1 ≤ length ds
  pub caps : All IsWithinCap ds
  pub held : sum_by larger ds ≤ pool

module _ (g : Group) (ds : List Desk) (e : ds ≡ slice_range g.desks 0 g.count) (here : g.count ≤ length g.desks) (few : g.count ≤ 16) where
  long : length ds ≡ g.count
  long = grind (arith, common_steps)

  at : (i : ℕ) → i < g.count → get_or ds i absent ≡ desk g i
  at i l = grind (arith, common_steps)

  summed : (f : Desk → ℕ) → sum_by f ds ≡ total (λ i. f (desk g i)) g.count
  summed f = let t : ds ≡ take g.count g.desks = grind (arith, common_steps) in rw t (total_taken f g.desks absent g.count here)

  pub valid_when : Tested ds g.pool → Valid g
  valid_when t = record {
    rules = record {
      some = omega (arith, t.some, long);
      few = few;
      shares = omega (arith, summed (λ d. d.share), sum_by-le-sum_by (λ d. d.share) larger ds (λ d. omega arith), t.held);
      caps = λ i l. (each i l).0;
    };
    uses = λ i l. (each i l).1;
    held = omega (arith, summed larger, t.held);
  }
    where
      each : (i : ℕ) → i < g.count → IsWithinCap (desk g i)
      each i l = rw (sym (at i l)) (All-get_or IsWithinCap ds i absent (omega (arith, long)) t.caps)

  pub tested : Valid g → Tested ds g.pool
  tested v = record {
    some = omega (arith, long, v.rules.some);
    caps = All-from_get_or IsWithinCap ds absent (λ i l. let k : i < g.count = omega (arith, long) in rw (at i k) (v.rules.caps i k, v.uses i k));
    held = omega (arith, summed larger, v.held);
  }
