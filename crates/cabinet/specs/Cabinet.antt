-- Card 8: a cabinet's daily pool of visits and the desks that use it, over natural numbers.
use Rattle.std.specs.Prelude.{true, false, List, ℕ, zero, suc, ◌+◌, ◌-◌, ◌<◌, ◌≤◌, min, max, eqb, map, length, replicate, get_or, set}
use Rattle.std.specs.List.{range_with_len}
use Rattle.cabinet.specs.declared.Desk.{Desk}
use Rattle.cabinet.specs.declared.Group.{Group}

abbrev pub absent : Desk
absent = record { share = 0; cap = 0; used = 0 }

-- "comes back with no desks"
abbrev pub nobody : Group
nobody = record { count = 0; pool = 0; desks = replicate 16 absent }

-- "Desks count from 0"
abbrev pub desk : Group → ℕ → Desk
desk g i = get_or g.desks i absent

-- The sum over the numbers below n.
unfoldable pub total : (ℕ → ℕ) → ℕ → ℕ
total f zero = 0
total f (suc n) = total f n + f n

-- ---- The rules

-- "From 1 to 16 desks"; "each has a share, all shares together no more than the pool, and a cap no lower than its
-- share"
pub record Rules (n pool : ℕ) (share cap : ℕ → ℕ) : Type 0 where
  pub some : 1 ≤ n
  pub few : n ≤ 16
  pub shares : total share n ≤ pool
  pub caps : (i : ℕ) → i < n → share i ≤ cap i

-- "a cap no lower than its share", and "where a use passes its cap"
abbrev pub IsWithinCap : Desk → Type 0
IsWithinCap d = (d.share ≤ d.cap) × (d.used ≤ d.cap)

-- "the larger of that desk's use and share"
abbrev pub larger : Desk → ℕ
larger d = max d.used d.share

-- 17 otherwise: "a group handed in that breaks them or where a use passes its cap or the larger of use and share add up
-- past the pool"
pub record Valid (g : Group) : Type 0 where
  pub rules : Rules g.count g.pool (λ i. (desk g i).share) (λ i. (desk g i).cap)
  pub uses : (i : ℕ) → i < g.count → (desk g i).used ≤ (desk g i).cap
  pub held : total (λ i. larger (desk g i)) g.count ≤ g.pool

-- ---- The ceiling

-- "for every other desk"
abbrev pub but : ℕ → (ℕ → ℕ) → ℕ → ℕ
but d f i = elim (eqb i d) [ true ↦ 0 | false ↦ f i ]

-- "the smallest of three numbers: 1,048,576; its cap less its use; the pool less its use and less, for every other desk,
-- the larger of that desk's use and share"
abbrev pub ceiling_of : Group → ℕ → ℕ
ceiling_of g d = min 1048576 (min ((desk g d).cap - (desk g d).used) (g.pool - (desk g d).used - total (but d (λ i. larger (desk g i))) g.count))

-- ---- What calls leave

-- "The visits made are charged"
abbrev pub charged : Group → ℕ → ℕ → Group
charged g d visits = record {
  count = g.count;
  pool = g.pool;
  desks = set g.desks d (record { share = (desk g d).share; cap = (desk g d).cap; used = (desk g d).used + visits });
}

-- A list by what stands at each of its places.
unfoldable pub places : (ℕ → Desk) → ℕ → List Desk
places f n = map f (range_with_len 0 n)

-- "A new day sets each use to 0"
abbrev pub rested : Group → Group
rested g = record { count = g.count; pool = g.pool; desks = places (λ i. record { share = (desk g i).share; cap = (desk g i).cap; used = 0 }) 16 }

-- The places after the last desk hold zeros.
abbrev pub set_up : ℕ → List ℕ → List ℕ → Group
set_up pool shares caps =
    record { count = length shares; pool = pool; desks = places (λ i. record { share = get_or shares i 0; cap = get_or caps i 0; used = 0 }) 16 }
