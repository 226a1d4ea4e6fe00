-- Loops over items that refer to names and nodes: what the items passed refer to is there and marked.
use mathlib.Core.Bool.{Bool, true, false}
use mathlib.Core.List.{List, [], ◌∷◌, ◌++◌, map, append_assoc, append-nil}
use mathlib.Core.Path.{◌≡◌, refl, sym, ap, subst, ◌∙◌}
use Prim.Native.Nat.{ℕ, ◌+◌, ◌<◌, ◌≤◌}
use lib.ListN.{length, get_or, take, drop}
use lib.Seq.{take_all}
use lib.Dec.{ltb}
use Rattle.std.proofs.lemmas.List.{take_more, take-append-drop}
use Rattle.frames.specs.Promises.{half_w}
use Rattle.reading.specs.Marks.{Refers, NamesNode, NamesFields, NamesItems}
use Rattle.reading.proofs.Marking.{refers_none, refers_name, refers_then, refers_stop}

-- What items refer to, one after the other.
abbrev gather : {X : Type 0} → (X → List ℕ) → List X → List ℕ
gather g [] = []
gather g (x ∷ xs) = g x ++ gather g xs

gather_append : {X : Type 0} (g : X → List ℕ) (xs ys : List X) → gather g (xs ++ ys) ≡ gather g xs ++ gather g ys
gather_append g [] ys = refl
gather_append g (x ∷ xs) ys = rw (gather_append g xs ys) (sym (append_assoc (g x) (gather g xs) (gather g ys)))

gather_one : {X : Type 0} (f : X → ℕ) (xs : List X) → gather (λ x. f x ∷ []) xs ≡ map f xs
gather_one f [] = refl
gather_one f (x ∷ xs) = ap (λ l. f x ∷ l) (gather_one f xs)

gather_none : {X : Type 0} (xs : List X) → gather (λ (x : X). []) xs ≡ []
gather_none [] = refl
gather_none (x ∷ xs) = gather_none xs

module _ {X : Type 0} (w₀ : List ℕ) (names nodes : ℕ) (xs : List X) (gx gn : X → List ℕ) where
  abbrev Going : ℕ → List ℕ → Type 0
  Going i w = Refers w₀ names (gather gx (take i xs)) nodes (gather gn (take i xs)) w true

  module _ {i : ℕ} {w : List ℕ} (t : Going i w) (d : X) (l : i < length xs) where
    one : (g : X → List ℕ) → gather g (take (i + 1) xs) ≡ gather g (take i xs) ++ g (get_or xs i d)
    one g = ap (gather g) (take_more xs i d l) ∙ gather_append g (take i xs) (get_or xs i d ∷ []) ∙ ap (λ l. gather g (take i xs) ++ l)
        (append-nil (g (get_or xs i d)))

    all : (g : X → List ℕ) → gather g xs ≡ (gather g (take i xs) ++ g (get_or xs i d)) ++ gather g (drop (i + 1) xs)
    all g = ap (gather g) (sym (take-append-drop (i + 1) xs)) ∙ gather_append g (take (i + 1) xs) (drop (i + 1) xs)
        ∙ ap (λ l. l ++ gather g (drop (i + 1) xs)) (one g)

    module _ {v : List ℕ} {r : Bool} (h : Refers w names (gx (get_or xs i d)) nodes (gn (get_or xs i d)) v r) where
      go_next : r ≡ true → Going (i + 1) v
      go_next e = rw (one gx, one gn) (refers_then names nodes t (rw e at h))

      go_stop : r ≡ false → Refers w₀ names (gather gx xs) nodes (gather gn xs) v false
      go_stop e =
          rw (all gx, all gn) (refers_stop names nodes (refers_then names nodes t (rw e at h)) (gather gx (drop (i + 1) xs)) (gather gn (drop (i + 1) xs)))

  go_end : {i : ℕ} {w : List ℕ} → Going i w → length xs ≤ i → Refers w₀ names (gather gx xs) nodes (gather gn xs) w true
  go_end {i} {w} t l = subst (λ ys. Refers w₀ names (gather gx ys) nodes (gather gn ys) w true) (take_all i xs l) t

-- ---- The fields of a record
module _ (fields : List (List ℕ)) (w₀ : List ℕ) (names nodes : ℕ) where
  abbrev pub FieldsGoing : ℕ → List ℕ → Type 0
  FieldsGoing = Going w₀ names nodes fields (λ p. half_w p 0 ∷ []) (λ p. half_w p 2 ∷ [])

  pub fields_start : FieldsGoing 0 w₀
  fields_start = refers_none names nodes w₀

  fields_are : (v : List ℕ) (r : Bool) → Refers w₀ names (gather (λ p. half_w p 0 ∷ []) fields) nodes (gather (λ p. half_w p 2 ∷ []) fields) v r
      → NamesFields fields w₀ names nodes v r
  fields_are v r h = rw (← gather_one (λ p. half_w p 0) fields, ← gather_one (λ p. half_w p 2) fields) h

  module _ {i : ℕ} {w : List ℕ} (t : FieldsGoing i w) where
    pub fields_end : length fields ≤ i → NamesFields fields w₀ names nodes w true
    fields_end l = fields_are w true (go_end w₀ names nodes fields (λ p. half_w p 0 ∷ []) (λ p. half_w p 2 ∷ []) t l)

    module _ (l : i < length fields) where
      abbrev p : List ℕ
      p = get_or fields i []

      stops : (v : List ℕ) → Refers w names (half_w p 0 ∷ []) nodes (half_w p 2 ∷ []) v false → NamesFields fields w₀ names nodes v false
      stops v r = fields_are v false (go_stop w₀ names nodes fields (λ p. half_w p 0 ∷ []) (λ p. half_w p 2 ∷ []) t [] l r refl)

      pub fields_no_name : false ≡ ltb (half_w p 0) names → NamesFields fields w₀ names nodes w false
      fields_no_name h = stops w (refers_stop names nodes (refers_name names nodes w (half_w p 0) false h) [] (half_w p 2 ∷ []))

      module _ (h : true ≡ ltb (half_w p 0) names) (v : List ℕ) where
        field_refers : {r : Bool} → NamesNode w (half_w p 2) nodes v r → Refers w names (half_w p 0 ∷ []) nodes (half_w p 2 ∷ []) v r
        field_refers n = refers_then names nodes (refers_name names nodes w (half_w p 0) true h) (n.is names)

        pub fields_no_node : NamesNode w (half_w p 2) nodes v false → NamesFields fields w₀ names nodes v false
        fields_no_node n = stops v (field_refers n)

        pub fields_next : NamesNode w (half_w p 2) nodes v true → FieldsGoing (i + 1) v
        fields_next n = go_next w₀ names nodes fields (λ p. half_w p 0 ∷ []) (λ p. half_w p 2 ∷ []) t [] l (field_refers n) refl

-- ---- Branches and operands, whatever the number of names
module _ (items : List (List ℕ)) (w₀ : List ℕ) (nodes : ℕ) where
  abbrev pub ItemsGoing : ℕ → List ℕ → Type 0
  ItemsGoing i w = (names : ℕ) → Going w₀ names nodes items (λ p. []) (λ p. half_w p 0 ∷ []) i w

  pub items_start : ItemsGoing 0 w₀
  items_start names = refers_none names nodes w₀

  items_are : (v : List ℕ) (r : Bool) → ((names : ℕ) → Refers w₀ names (gather (λ (p : List ℕ). []) items) nodes (gather (λ p. half_w p 0 ∷ []) items) v r)
      → NamesItems items w₀ nodes v r
  items_are v r h = record { is = λ names. rw (gather_none items, gather_one (λ p. half_w p 0) items) at (h names) }

  module _ {i : ℕ} {w : List ℕ} (t : ItemsGoing i w) where
    pub items_end : length items ≤ i → NamesItems items w₀ nodes w true
    items_end l = items_are w true (λ names. go_end w₀ names nodes items (λ p. []) (λ p. half_w p 0 ∷ []) (t names) l)

    module _ (l : i < length items) (v : List ℕ) where
      pub items_no_node : NamesNode w (half_w (get_or items i []) 0) nodes v false → NamesItems items w₀ nodes v false
      items_no_node n = items_are v false (λ names. go_stop w₀ names nodes items (λ p. []) (λ p. half_w p 0 ∷ []) (t names) [] l (n.is names) refl)

      pub items_next : NamesNode w (half_w (get_or items i []) 0) nodes v true → ItemsGoing (i + 1) v
      items_next n names = go_next w₀ names nodes items (λ p. []) (λ p. half_w p 0 ∷ []) (t names) [] l (n.is names) refl
