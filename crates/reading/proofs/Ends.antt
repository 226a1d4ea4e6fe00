-- The two ends of reading: before the first line nothing is held, and after the query and the counts the slice stands
-- for what was read.
use mathlib.Core.List.{List, [], map}
use mathlib.Core.Path.{◌≡◌, refl, sym, ap, subst, ◌∙◌}
use Prim.Native.Nat.{ℕ, ◌+◌, ◌*◌, ◌%◌, ◌<◌, ◌≤◌}
use native.Mathlib.Omega.{arith}
use lib.ListN.{length, get_or, length-map, get_or-map}
use Rattle.text.specs.Utf8.{characters, count}
use Rattle.unification.specs.Ty as Tree
use Rattle.unification.specs.Ty.{ε}
use Rattle.unification.specs.Calls.{Declared}
use Rattle.work.specs.Layout.{NAME-COUNT, TYPE-COUNT, PREDICATE-COUNT, MAX-DISTANCE, MAX-TERM, NAMES, FIELDS, RECORD-COUNT}
use Rattle.cells.specs.declared.Kind.{Kind}
use Rattle.cells.specs.declared.Kind.TheVariants.{Fields, Alternatives}
use Rattle.cells.specs.Words.{declared_w, count_w, first_w, declared_field, alternative_w, part_w}
use Rattle.cells.specs.CodeCalls.{Declares}
use Rattle.cells.specs.Stands.{Rows, part_words, Keeps}
use Rattle.format.specs.Frame as Frame
use Rattle.format.specs.Lines.{position}
use Rattle.format.specs.Conditions.{any_of, among}
use Rattle.format.specs.SoFar.{SoFar, start}
use Rattle.format.specs.File.{count_of, schema_of, describe}
use Rattle.format.specs.Sound.{Kept}
use Rattle.format.proofs.Lists.{all_at}
use Rattle.tree.specs.Stands.{TypeCells, SchemaStands, numbered}
use Rattle.work.specs.declared.Counters.{Counters}
use Rattle.work.specs.Counted.{no_counters}
use Rattle.reading.specs.Promises.{counts, counted}
use Rattle.reading.specs.Held.{LimitsHeld, part_type, IsOf, TypesHeld, Held}
use Rattle.reading.proofs.Regions.{over, keeps_sets, WordsAt, sets_words}
use Rattle.reading.proofs.Lines.{types_same, predicates_same}
use Rattle.cells.proofs.Frame.{field_declared}
use Rattle.format.specs.Frame.{Edition}
use Rattle.std.specs.Prelude.{None, Option, Some}

-- ---- Before the first line

pub nothing_held : (ed : Edition) (f w : List ℕ) → length f ≤ 65536 → 16384 ≤ length w → Held ed f 0 w (λ t. ε) no_counters None start
unfolding start position among any_of
nothing_held ed f w small long = record {
  long = long;
  place = omega arith;
  small = small;
  kind = refl;
  room = omega arith;
  limits = tt;
  names = record { count = refl; few = omega arith; name = λ i l. absurd (omega arith); characters = λ i l. absurd (omega arith); valued = refl };
  types = record {
    count = refl;
    few = omega arith;
    type = λ t l. absurd (omega arith);
    row = λ k t l i. absurd (omega arith);
    earlier = λ k t j l i b. absurd (omega arith);
    within = λ k t l i. absurd (omega arith);
    tags = λ t l. absurd (omega arith);
  };
  predicates = record { count = refl; few = omega arith; predicate = λ p l. absurd (omega arith) };
  nodes = record { count = refl; few = omega arith; node = λ i l. absurd (omega arith) };
  named = record { mark = λ i l. absurd (omega arith); later = λ i l. refl };
  queries = refl;
  turns = omega arith;
}

-- ---- After the last

cells_held : {w : List ℕ} {T : Rows} {n fields : ℕ} {types : List _} → fields ≤ 8192 → TypesHeld w T n fields types → TypeCells w T (length types)
unfolding declared_field alternative_w
cells_held {w} {T} {n} {fields} {types} fits h = record { row = h.row; earlier = earlier; fits = room; tags = h.tags }
  where
    typed : (k : Kind) (c j : ℕ) → c < 256 → (part_w w k c j).ty ≡ declared_w w (part_type w k c j)
    typed Fields c j l = rw (field_declared w c j l)
    typed Alternatives c j l = refl

    earlier : (k : Kind) (c j : ℕ) → c < length types → IsOf w k c → j < count_w w c → (t : ℕ) × (t < c) × ((part_w w k c j).ty ≡ declared_w w t)
    earlier k c j l i b = (part_type w k c j, h.earlier k c j l i b, typed k c j (omega (arith, h.few)))

    room : (k : Kind) (c : ℕ) → c < length types → IsOf w k c → FIELDS + (first_w w c + part_words k * count_w w c) ≤ RECORD-COUNT
    room k c l i = omega (arith, h.within k c l i)

no_characters : count_of (characters []) ≡ 0
unfolding count_of characters count
no_characters = refl

module _ (ed : Edition) {f : List ℕ} {at : ℕ} {w : List ℕ} {T : Rows} {c : Counters} {previous : Option Frame.Kind} {so : SoFar}
    (h : Held ed f at w T c previous so) where
  kept : Keeps NAME-COUNT MAX-DISTANCE w (counted w c)
  kept = keeps_sets w NAME-COUNT (counts c) (omega arith) (omega arith)

  there : WordsAt (counted w c) NAME-COUNT (counts c)
  there = sets_words w NAME-COUNT (counts c) (omega (arith, h.long))

  pub schema_held : (k : Frame.Kind) → so.previous ≡ Some k → SchemaStands f (counted w c) T (describe so).names (describe so).schema
  unfolding describe schema_of count_of
  schema_held k begun =
      let types : get_or (counted w c) TYPE-COUNT 0 ≡ length so.types = there.at 1 (omega arith) ∙ h.types.count in
      let e : get_or (counted w c) PREDICATE-COUNT 0 ≡ length so.predicates = there.at 2 (omega arith) ∙ h.predicates.count in
      let l : LimitsHeld w (Some k) so.max_distance so.max_term_chars = rw begun at h.limits in
      record {
        types = rw types h.types.few;
        cells = rw types (cells_held (omega (arith, h.room, h.place, h.small)) (types_same ed h (over kept (omega arith)) (over kept (omega arith))));
        predicates = e;
        predicate = rw types (predicates_same ed h (over kept (omega arith)) (over kept (omega arith)) (over kept (omega arith))).predicate;
        value = there.at 4 (omega arith) ∙ ap numbered h.names.valued;
        names = there.at 0 (omega arith) ∙ h.names.count ∙ sym (length-map so.names (λ s. count_of (characters s)));
        texts = sym (length-map so.names (λ s. count_of (characters s)));
        name = λ n l. rw (kept.above (NAMES + n) (omega arith)) (h.names.name n l);
        characters = λ n l.
            ap (λ x. x % 512) (kept.above (NAMES + n) (omega arith))
            ∙ h.names.characters n (rw (length-map so.names (λ s. count_of (characters s))) at l)
            ∙ sym (subst (λ d. get_or (map (λ s. count_of (characters s)) so.names) n d ≡ count_of (characters (get_or so.names n []))) no_characters
            (get_or-map (λ s. count_of (characters s)) so.names n []));
        distance = kept.above MAX-DISTANCE (omega arith) ∙ l.0;
        term = kept.above MAX-TERM (omega arith) ∙ l.1;
      }

  pub long_held : 16384 ≤ length (counted w c)
  long_held = rw kept.long h.long

  -- Every schema type that was read is there by its number, and declared.
  pub all_declared : Kept so → Declares (counted w c) T so.types
  all_declared k =
      let held = types_same ed h (over kept (omega arith)) (over kept (omega arith)) in
      record {
        count = there.at 1 (omega arith) ∙ h.types.count;
        type = λ t lt. sym (held.type t lt);
        declared = λ t lt. all_at Declared so.types t Tree.Error k.types lt;
      }
