-- What is said of every element of a list, and of its elements among each other.
use Rattle.std.specs.Prelude.{List, [], ◌∷◌, ◌≢◌, ◌⊎◌, ℕ, ◌<◌}

abbrev pub All : {A : Type 0} → (A → Type 0) → List A → Type 0
All P [] = Unit {0}
All P (a ∷ l) = P a × All P l

-- a is none of them
abbrev pub Absent : {A : Type 0} → A → List A → Type 0
Absent a l = All (λ b. a ≢ b) l

-- none of them stands twice
abbrev pub Distinct : {A : Type 0} → List A → Type 0
Distinct [] = Unit {0}
Distinct (a ∷ l) = Absent a l × Distinct l

-- all of them are below n
abbrev pub Below : ℕ → List ℕ → Type 0
Below n l = All (λ m. m < n) l

-- one of them is so, at least
abbrev pub Any : {A : Type 0} → (A → Type 0) → List A → Type 0
Any P [] = ⊥
Any P (a ∷ l) = P a ⊎ Any P l

-- as many of one as of the other, and so of each pair
abbrev pub Each : {A B : Type 0} → (A → B → Type 0) → List A → List B → Type 0
Each R [] [] = Unit {0}
Each R [] (b ∷ bs) = ⊥
Each R (a ∷ l) [] = ⊥
Each R (a ∷ l) (b ∷ bs) = R a b × Each R l bs
