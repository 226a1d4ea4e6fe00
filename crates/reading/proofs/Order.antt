-- The first condition that holds of a line: the conditions in their order, each where none before it holds.
use mathlib.Core.Bool.{true, false, not}
use mathlib.Core.List.{List, [], ◌∷◌}
use mathlib.Core.Path.{◌≡◌, refl, ap, ◌∙◌}
use Prim.Native.Nat.{ℕ}
use lib.ListN.{drop}
use Rattle.format.specs.Refusal.{malformed_line, misplaced_kind, too_many, malformed_frame, broken_text, name_given_before, bad_reference, repeated_key}
use Rattle.format.specs.Refusal.{too_many_queries}
use Rattle.format.specs.Frame.{Kind, Frame, may_stand, frame_kind}
use Rattle.format.specs.References.{texts_of, keys_of}
use Rattle.format.specs.SoFar.{SoFar, Said, malformed, unknown_kind, said_of, frames}
use Rattle.format.specs.Conditions.{any_of, again, given, is_malformed, is_misplaced, is_full, is_one_too_many, is_last_query_past, is_query_too_many}
use Rattle.format.specs.Conditions.{is_no_frame}
use Rattle.format.specs.Conditions.{of_frame, broken, is_broken_text, is_name_given_before, refers_badly, is_bad_reference, is_repeated_key, Condition}
use Rattle.format.specs.Conditions.{conditions}
use Rattle.format.specs.Conditions.{first_of}
use Rattle.format.proofs.Conditions.{passed}
use Rattle.std.specs.Prelude.{None, Option, Some}

met : (c : Condition) (cs : List Condition) (so : SoFar) (l : Said) → c.holds so l ≡ true → first_of (c ∷ cs) so l ≡ Some c.refusal
unfolding first_of
met c cs so l e = ap (λ b. elim b [ true ↦ Some c.refusal | false ↦ first_of cs so l ]) e

none_left : (so : SoFar) (l : Said) → first_of [] so l ≡ None
unfolding first_of
none_left so l = refl

-- The conditions from number n on.
abbrev later : ℕ → List Condition
later n = drop n conditions

-- ---- A line that is no frame

pub first_malformed : (so : SoFar) → first_of conditions so malformed ≡ Some malformed_line
unfolding first_of conditions is_malformed
first_malformed so = refl

pub first_unknown : (so : SoFar) → first_of conditions so unknown_kind ≡ Some misplaced_kind
unfolding first_of conditions is_malformed is_misplaced
first_unknown so = refl

-- A line of a kind, frame or not.
module _ (so : SoFar) (k : Kind) (o : Option Frame) (of : (f : Frame) → o ≡ Some f → frame_kind f ≡ k) where
  formed : is_malformed so (said_of k o) ≡ false
  unfolding is_malformed said_of
  formed = go o
    where
      go : (o : Option Frame) → is_malformed so (said_of k o) ≡ false
      go None = refl
      go (Some f) = refl

  placed_by : is_misplaced so (said_of k o) ≡ not (may_stand so.previous k)
  unfolding is_misplaced said_of
  placed_by = go o of
    where
      go : (o : Option Frame) → ((f : Frame) → o ≡ Some f → frame_kind f ≡ k) → is_misplaced so (said_of k o) ≡ not (may_stand so.previous k)
      go None of = refl
      go (Some f) of = ap (λ j. not (may_stand so.previous j)) (of f refl)

  counted_by : is_one_too_many so (said_of k o) ≡ is_full so k
  unfolding is_one_too_many said_of
  counted_by = go o of
    where
      go : (o : Option Frame) → ((f : Frame) → o ≡ Some f → frame_kind f ≡ k) → is_one_too_many so (said_of k o) ≡ is_full so k
      go None of = refl
      go (Some f) of = ap (is_full so) (of f refl)

  turn_by : is_query_too_many so (said_of k o) ≡ is_last_query_past so k
  unfolding is_query_too_many said_of
  turn_by = go o of
    where
      go : (o : Option Frame) → ((f : Frame) → o ≡ Some f → frame_kind f ≡ k) → is_query_too_many so (said_of k o) ≡ is_last_query_past so k
      go None of = refl
      go (Some f) of = ap (is_last_query_past so) (of f refl)

  pub first_misplaced : may_stand so.previous k ≡ false → first_of conditions so (said_of k o) ≡ Some misplaced_kind
  unfolding conditions
  first_misplaced e = passed _ _ so (said_of k o) formed ∙ met _ _ so (said_of k o) (placed_by ∙ ap not e)

  module _ (placed : may_stand so.previous k ≡ true) where
    pub first_too_many : is_full so k ≡ true → first_of conditions so (said_of k o) ≡ Some too_many
    unfolding conditions
    first_too_many e = passed _ _ so (said_of k o) formed ∙ passed _ _ so (said_of k o) (placed_by ∙ ap not placed) ∙ met _ _ so (said_of k o) (counted_by ∙ e)

    pub first_too_many_queries : is_full so k ≡ false → is_last_query_past so k ≡ true → first_of conditions so (said_of k o) ≡ Some too_many_queries
    unfolding conditions
    first_too_many_queries e t =
        passed _ _ so (said_of k o) formed
        ∙ passed _ _ so (said_of k o) (placed_by ∙ ap not placed)
        ∙ passed _ _ so (said_of k o) (counted_by ∙ e)
        ∙ met _ _ so (said_of k o) (turn_by ∙ t)

    pub first_no_frame : is_full so k ≡ false → is_last_query_past so k ≡ false → o ≡ None → first_of conditions so (said_of k o) ≡ Some malformed_frame
    unfolding conditions is_no_frame said_of
    first_no_frame e t n =
        passed _ _ so (said_of k o) formed
        ∙ passed _ _ so (said_of k o) (placed_by ∙ ap not placed)
        ∙ passed _ _ so (said_of k o) (counted_by ∙ e)
        ∙ passed _ _ so (said_of k o) (turn_by ∙ t)
        ∙ met _ _ so (said_of k o) (ap (λ x. is_no_frame so (said_of k x)) n)

-- ---- A frame that may stand where it does and is not one too many

module _ (so : SoFar) (f : Frame) (placed : may_stand so.previous (frame_kind f) ≡ true) (room : is_full so (frame_kind f) ≡ false)
    (turn : is_last_query_past so (frame_kind f) ≡ false) where
  past_form : first_of conditions so (frames f) ≡ first_of (later 5) so (frames f)
  unfolding conditions is_malformed is_misplaced is_one_too_many is_query_too_many is_no_frame
  past_form = passed _ _ so (frames f) refl ∙ passed _ _ so (frames f) (ap not placed) ∙ passed _ _ so (frames f) room ∙ passed _ _ so (frames f) turn
      ∙ passed _ _ so (frames f) refl

  pub first_broken : any_of broken (texts_of f) ≡ true → first_of conditions so (frames f) ≡ Some broken_text
  unfolding conditions is_broken_text of_frame
  first_broken b = past_form ∙ met _ _ so (frames f) b

  module _ (read : any_of broken (texts_of f) ≡ false) where
    past_text : first_of conditions so (frames f) ≡ first_of (later 6) so (frames f)
    unfolding conditions is_broken_text of_frame
    past_text = past_form ∙ passed _ _ so (frames f) read

    pub first_given : any_of (given so.names) (texts_of f) ≡ true → first_of conditions so (frames f) ≡ Some name_given_before
    unfolding conditions is_name_given_before of_frame
    first_given g = past_text ∙ met _ _ so (frames f) g

    module _ (new : any_of (given so.names) (texts_of f) ≡ false) where
      past_given : first_of conditions so (frames f) ≡ first_of (later 7) so (frames f)
      unfolding conditions is_name_given_before of_frame
      past_given = past_text ∙ passed _ _ so (frames f) new

      pub first_bad : refers_badly so f ≡ true → first_of conditions so (frames f) ≡ Some bad_reference
      unfolding conditions is_bad_reference of_frame
      first_bad r = past_given ∙ met _ _ so (frames f) r

      module _ (refers : refers_badly so f ≡ false) where
        past_reference : first_of conditions so (frames f) ≡ first_of (later 8) so (frames f)
        unfolding conditions is_bad_reference of_frame
        past_reference = past_given ∙ passed _ _ so (frames f) refers

        pub first_repeated : again [] (keys_of f) ≡ true → first_of conditions so (frames f) ≡ Some repeated_key
        unfolding conditions is_repeated_key of_frame
        first_repeated k = past_reference ∙ met _ _ so (frames f) k

        pub first_none : again [] (keys_of f) ≡ false → first_of conditions so (frames f) ≡ None
        unfolding conditions is_repeated_key of_frame
        first_none k = past_reference ∙ passed _ _ so (frames f) k ∙ none_left so (frames f)
