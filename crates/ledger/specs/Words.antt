-- Which words stand for a group of desks and for a tally. Both ways are one (`words_group`, `group_words_lem`,
-- `words_tally`, `tally_words_lem` of proofs/Words.antt).
use Rattle.std.specs.Prelude.{List, [], ◌∷◌, ℕ, ◌+◌, ◌*◌, get_or}
use Rattle.cabinet.specs.declared.Desk.{Desk}
use Rattle.cabinet.specs.declared.Group.{Group}
use Rattle.cabinet.specs.Cabinet.{desk, places}
use Rattle.tariff.specs.declared.Tally.{Tally}

-- The count, the pool, and three words for each of sixteen desks: share, cap, use.
abbrev pub desk_at : List ℕ → ℕ → Desk
desk_at ws i = record { share = get_or ws (2 + 3 * i) 0; cap = get_or ws (3 + 3 * i) 0; used = get_or ws (4 + 3 * i) 0 }

abbrev pub group_of : List ℕ → Group
group_of ws = record { count = get_or ws 0 0; pool = get_or ws 1 0; desks = places (desk_at ws) 16 }

unfoldable pub desk_words : List Desk → List ℕ
desk_words [] = []
desk_words (d ∷ ds) = d.share ∷ d.cap ∷ d.used ∷ desk_words ds

abbrev pub group_words : Group → List ℕ
group_words g = g.count ∷ g.pool ∷ desk_words (places (desk g) 16)

abbrev pub tally_of : List ℕ → Tally
tally_of ws = record { units = get_or ws 0 0; cents = get_or ws 1 0; remainder = get_or ws 2 0 }

abbrev pub tally_words : Tally → List ℕ
tally_words t = t.units ∷ t.cents ∷ t.remainder ∷ []
