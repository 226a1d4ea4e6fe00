-- A day at three desks: the first uses more than its share, and the third is still sure of its own.
use Rattle.std.proofs.Common.{Ok, List, [], ◌∷◌, get_or, ◌≡◌, refl, ℕ, zero, suc, ◌<◌, ◌≤◌, arith}
use Rattle.cabinet.specs.declared.Group.{Group}
use Rattle.cabinet.specs.Cabinet.{total, places, ceiling_of, charged, set_up, rested}
use Rattle.cabinet.specs.Promises.{AllowedShares}
use Rattle.cabinet.specs.Days.{LedToGroup, set_up_lem, query, new_day, Assured}
use Rattle.cabinet.proofs.Days.{always, assured}

abbrev shares : List ℕ
shares = 300 ∷ 200 ∷ 100 ∷ []

abbrev caps : List ℕ
caps = 900 ∷ 200 ∷ 500 ∷ []

abbrev three : Group
three = set_up 1000 shares caps

allowed : AllowedShares 1000 shares caps
unfolding total
allowed = record { pairs = refl; rules = record { some = omega arith; few = omega arith; shares = omega arith; caps = enough } }
  where
    enough : (i : ℕ) → i < 3 → get_or shares i 0 ≤ get_or caps i 0
    enough zero l = omega arith
    enough (suc zero) l = omega arith
    enough (suc (suc zero)) l = omega arith
    enough (suc (suc (suc i))) l = omega arith

begun : LedToGroup three
begun = set_up_lem 1000 shares caps (record { exactly = (λ _. allowed, λ _. refl); made = refl; turned_down = tt })

-- 1,000 less the 200 and the 100 that the others are sure of
pub first_may : ceiling_of three 0 ≡ 700
unfolding total places
first_may = refl

used : LedToGroup (charged three 0 700)
used = query begun 0 700 (omega arith) (rw first_may (omega arith))

pub third_may : ceiling_of (charged three 0 700) 2 ≡ 100
unfolding total places
third_may = refl

pub used_up : ceiling_of (charged three 0 700) 0 ≡ 0
unfolding total places
used_up = refl

pub the_day_after : Assured (rested (charged three 0 700))
the_day_after = assured (new_day used (Ok (rested (charged three 0 700))) (record { exactly = (λ _. always used, λ _. refl); rests = refl; unchanged = tt }))
