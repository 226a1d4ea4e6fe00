-- How the words of the work slice are read as types, parts of cells, bindings and undo entries.
use Rattle.std.specs.Prelude.{Bool, cond, List, ℕ, ◌+◌, ◌-◌, ◌*◌, ◌/◌, ◌%◌, eqb, ltb, get_or, set, None, Option, Some}
use Rattle.work.specs.Layout.{TYPES, FIELDS, RECORDS, RECORD-FIELDS, UNKNOWNS, BINDINGS, TYS, UNDO, UNDO-LEN}
use Rattle.cells.specs.declared.Ty.{Ty}
use Rattle.cells.specs.declared.Ty.TheVariants.{Int, Str, Bytes, Fact, Record, Union, Var, Error}
use Rattle.cells.specs.declared.Kind.{Kind}
use Rattle.cells.specs.declared.Kind.TheVariants.{Fields, Alternatives}
use Rattle.cells.specs.declared.Part.{Part}

abbrev pub pick {ℓ} : {A : Type ℓ} → Bool → A → A → A
pick = cond

-- ---- A type is a tag and a payload.
unfoldable pub ty_w : ℕ → ℕ → Ty
ty_w tag p =
    pick (eqb tag 1) Int (pick (eqb tag 2) Str (pick (eqb tag 3) Bytes
    (pick (eqb tag 4) (Fact p) (pick (eqb tag 5) (Record p) (pick (eqb tag 6) (Union p) (pick (eqb tag 7) (Var p) Error))))))

abbrev pub tag_w : Ty → ℕ
tag_w Int = 1
tag_w Str = 2
tag_w Bytes = 3
tag_w (Fact p) = 4
tag_w (Record c) = 5
tag_w (Union c) = 6
tag_w (Var x) = 7
tag_w Error = 8

abbrev pub payload_w : Ty → ℕ
payload_w Int = 0
payload_w Str = 0
payload_w Bytes = 0
payload_w (Fact p) = p
payload_w (Record c) = c
payload_w (Union c) = c
payload_w (Var x) = x
payload_w Error = 0

-- ---- Cells: below 256 the schema type of that number, from 256 on an inferred record.

-- The type that a schema type of this number is.
unfoldable pub declared_w : List ℕ → ℕ → Ty
unfolding ty_w
declared_w w t =
    pick (eqb (get_or w (TYPES + 2 * t) 0 % 16) 5) (Record t)
    (pick (eqb (get_or w (TYPES + 2 * t) 0 % 16) 6) (Union t)
    (ty_w (get_or w (TYPES + 2 * t) 0 % 16) (get_or w (TYPES + 2 * t + 1) 0)))

-- How many parts a cell has, and where they start in their region.
unfoldable pub count_w : List ℕ → ℕ → ℕ
count_w w c = pick (ltb c 256) (get_or w (TYPES + 2 * c) 0 / 16) (get_or w (RECORDS + (c - 256)) 0 % 1024)

unfoldable pub first_w : List ℕ → ℕ → ℕ
first_w w c = pick (ltb c 256) (get_or w (TYPES + 2 * c + 1) 0) (get_or w (RECORDS + (c - 256)) 0 / 1024)

unfoldable pub declared_field : List ℕ → ℕ → Part
unfolding declared_w
declared_field w x = record { key = x / 256; label = 0; ty = declared_w w (x % 256) }

unfoldable pub made_field : List ℕ → ℕ → Part
unfolding ty_w
made_field w at = record { key = get_or w at 0 / 16; label = 0; ty = ty_w (get_or w at 0 % 16) (get_or w (at + 1) 0) }

-- The field or the alternative of this number.
unfoldable pub field_w : List ℕ → ℕ → ℕ → Part
unfolding declared_field made_field first_w
field_w w c j = pick (ltb c 256) (declared_field w (get_or w (FIELDS + first_w w c + j) 0)) (made_field w (RECORD-FIELDS + 2 * (first_w w c + j)))

unfoldable pub alternative_w : List ℕ → ℕ → ℕ → Part
unfolding declared_w first_w
alternative_w w c j = record {
  key = get_or w (FIELDS + first_w w c + 2 * j) 0;
  label = get_or w (FIELDS + first_w w c + 2 * j + 1) 0 / 256;
  ty = declared_w w (get_or w (FIELDS + first_w w c + 2 * j + 1) 0 % 256);
}

abbrev pub part_w : List ℕ → Kind → ℕ → ℕ → Part
part_w w Fields c j = field_w w c j
part_w w Alternatives c j = alternative_w w c j

-- ---- A type in hand: how many parts it has, and its part of this number.
abbrev pub parts_w : List ℕ → Ty → ℕ
parts_w w Int = 0
parts_w w Str = 0
parts_w w Bytes = 0
parts_w w (Fact p) = 0
parts_w w (Record c) = count_w w c
parts_w w (Union c) = count_w w c
parts_w w (Var y) = 0
parts_w w Error = 0

abbrev pub part_of_w : List ℕ → Ty → ℕ → Part
part_of_w w Int j = field_w w 0 j
part_of_w w Str j = field_w w 0 j
part_of_w w Bytes j = field_w w 0 j
part_of_w w (Fact p) j = field_w w 0 j
part_of_w w (Record c) j = field_w w c j
part_of_w w (Union c) j = alternative_w w c j
part_of_w w (Var y) j = field_w w 0 j
part_of_w w Error j = field_w w 0 j

-- The key or what was found so far, the lower of the two; a key below `from` does not count.
abbrev pub lesser : ℕ → Option ℕ → Option ℕ
lesser key None = Some key
lesser key (Some b) = pick (ltb key b) (Some key) (Some b)

unfoldable pub lower_w : ℕ → ℕ → Option ℕ → Option ℕ
lower_w key from best = pick (ltb key from) best (lesser key best)

-- One alternative more is passed where the one that was compared is the next.
unfoldable pub after_w : ℕ → ℕ → ℕ
after_w a i = pick (eqb a i) (pick (ltb i 65536) (i + 1) i) i

-- ---- Bindings and node types: tag 0 stands for none.
unfoldable pub slot_w : List ℕ → ℕ → Option Ty
unfolding ty_w
slot_w w at = pick (eqb (get_or w at 0) 0) None (Some (ty_w (get_or w at 0) (get_or w (at + 1) 0)))

unfoldable pub bound_w : List ℕ → ℕ → Option Ty
unfolding slot_w
bound_w w x = pick (ltb x (get_or w UNKNOWNS 0)) (slot_w w (BINDINGS + 2 * x)) None

-- ---- Writing
unfoldable pub put_ty : List ℕ → ℕ → Ty → List ℕ
put_ty w at t = set (set w at (tag_w t)) (at + 1) (payload_w t)

-- There is room for 1,024 undo entries, 512 unknowns and 512 nodes; past it nothing is written, and that it never comes
-- to that is shown where the state is.
unfoldable pub push_undo_w : List ℕ → ℕ → List ℕ
push_undo_w w e = pick (ltb (get_or w UNDO-LEN 0) 1024) (set (set w (UNDO + get_or w UNDO-LEN 0) e) UNDO-LEN (get_or w UNDO-LEN 0 + 1)) w

unfoldable pub set_var_w : List ℕ → ℕ → Ty → List ℕ
unfolding put_ty push_undo_w
set_var_w w x t = pick (ltb x 512) (push_undo_w (put_ty w (BINDINGS + 2 * x) t) x) w

unfoldable pub annotate_w : List ℕ → ℕ → Ty → List ℕ
unfolding put_ty push_undo_w
annotate_w w n t = pick (ltb n 512) (push_undo_w (put_ty w (TYS + 2 * n) t) (n + 65536)) w

unfoldable pub fresh_w : List ℕ → List ℕ
fresh_w w = pick (ltb (get_or w UNKNOWNS 0) 512) (set (set w (BINDINGS + 2 * get_or w UNKNOWNS 0) 0) UNKNOWNS (get_or w UNKNOWNS 0 + 1)) w

-- An undo entry below 65,536 is an unknown, another a node.
unfoldable pub revert_w : List ℕ → ℕ → List ℕ
revert_w w e =
    pick (ltb e 65536)
    (pick (ltb e 512) (set w (BINDINGS + 2 * e) 0) w)
    (pick (ltb (e - 65536) 512) (set w (TYS + 2 * (e - 65536)) 0) w)
