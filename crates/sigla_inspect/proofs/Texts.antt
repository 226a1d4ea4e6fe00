-- The text of the words is the text of the types and bindings which they spell.
use Rattle.std.proofs.Common.{ℕ, List, [], ◌∷◌, ◌++◌, ◌≡◌, refl, sym, ap, ◌∙◌, append_assoc, append-nil, None, Some}
use Rattle.std.specs.Prelude.{codes}
use Rattle.std.specs.Fmt.{decimal}
use Rattle.unification.specs.Ty.{Leaf, Int, String, Bytes, Fact, Kind, Record, Union, Ty, leaf, node, Var, Error, Row, ε, cell, row_len}
use Rattle.plain_theory.specs.Plain.{Binding}
use Rattle.plain_theory.specs.Words.{leaf_spelled, kind_tag, head_spelled, spelled, row_spelled, bindings_spelled}
use Rattle.sigla_inspect.specs.Text.{leaf_text, kind_text, part_text, type_text, parts_text, binding_line, bindings_text}
use Rattle.sigla_inspect.specs.Words.{tag_text, after_number, word_text, owing, words_text}

leaf_said : (l : Leaf) (ws : List ℕ) → words_text None (leaf_spelled l ++ ws) ≡ leaf_text l ++ words_text None ws
unfolding words_text word_text owing tag_text after_number leaf_spelled leaf_text
leaf_said Int ws = refl
leaf_said String ws = refl
leaf_said Bytes ws = refl
leaf_said (Fact p) ws = simp (append_assoc, append-nil)

head_said : (k : Kind) (n : ℕ) (ws : List ℕ) → words_text None (kind_tag k ∷ n ∷ ws) ≡ (kind_text k ++ decimal n) ++ words_text None ws
unfolding words_text word_text owing tag_text after_number kind_tag kind_text
head_said Record n ws = simp (append_assoc, append-nil)
head_said Union n ws = simp (append_assoc, append-nil)

part_said : (k : Kind) (key label : ℕ) (ws : List ℕ) → words_text None (head_spelled k key label ++ ws) ≡ part_text k key label ++ words_text None ws
unfolding words_text word_text owing tag_text after_number head_spelled part_text
part_said Record key label ws = simp (append_assoc, append-nil)
part_said Union key label ws = simp (append_assoc, append-nil)

unknown_said : (x : ℕ) (ws : List ℕ) → words_text None (7 ∷ x ∷ ws) ≡ (codes " ?" ++ decimal x) ++ words_text None ws
unfolding words_text word_text owing tag_text after_number
unknown_said x ws = simp (append_assoc, append-nil)

error_said : (ws : List ℕ) → words_text None (8 ∷ ws) ≡ codes " Error" ++ words_text None ws
unfolding words_text word_text owing tag_text
error_said ws = refl

mutual
  unfolding spelled type_text

  type_said : (t : Ty) (ws : List ℕ) → words_text None (spelled t ++ ws) ≡ type_text t ++ words_text None ws
  type_said (leaf l) ws = leaf_said l ws
  type_said (node k r) ws =
      head_said k (row_len r) (row_spelled r k ++ ws) ∙ ap (λ (l : List ℕ). (kind_text k ++ decimal (row_len r)) ++ l) (row_said k r ws)
      ∙ sym (append_assoc (kind_text k ++ decimal (row_len r)) (parts_text k r) (words_text None ws))
  type_said (Var x) ws = unknown_said x ws
  type_said Error ws = error_said ws

  row_said : (k : Kind) (r : Row) (ws : List ℕ) → words_text None (row_spelled r k ++ ws) ≡ parts_text k r ++ words_text None ws
  row_said k ε ws = refl
  row_said k (cell key label t r) ws =
      ap (words_text None) (append_assoc (head_spelled k key label) (spelled t ++ row_spelled r k) ws
      ∙ ap (λ (l : List ℕ). head_spelled k key label ++ l) (append_assoc (spelled t) (row_spelled r k) ws))
      ∙ part_said k key label (spelled t ++ (row_spelled r k ++ ws))
      ∙ ap (λ (l : List ℕ). part_text k key label ++ l) (type_said t (row_spelled r k ++ ws)
      ∙ ap (λ (l : List ℕ). type_text t ++ l) (row_said k r ws))
      ∙ simp append_assoc

-- The first binding from its unknown on, and the lines that follow.
binding_said : (x : ℕ) (ws : List ℕ) → words_text (Some 11) (x ∷ ws) ≡ (decimal x ++ codes " =") ++ words_text None ws
unfolding words_text word_text owing after_number
binding_said x ws = refl

next_said : (ws : List ℕ) → words_text None (11 ∷ ws) ≡ codes "\n?" ++ words_text (Some 11) ws
unfolding words_text word_text owing tag_text
next_said ws = refl

text_ended : words_text None [] ≡ []
unfolding words_text
text_ended = refl

joined : (q d e t w n l : List ℕ) → w ++ n ≡ n ++ l → (q ++ ((d ++ e) ++ (t ++ w))) ++ n ≡ ((((q ++ d) ++ e) ++ t) ++ n) ++ l
joined q d e t w n l h = simp append_assoc (ap (λ (z : List ℕ). q ++ (d ++ (e ++ (t ++ z)))) h)

line_said : (b : Binding) (bs : List Binding) → words_text None (bindings_spelled bs) ++ codes "\n" ≡ codes "\n" ++ bindings_text bs
    → codes "?" ++ words_text (Some 11) (b.unknown ∷ (spelled b.to ++ bindings_spelled bs)) ++ codes "\n" ≡ bindings_text (b ∷ bs)
unfolding bindings_text binding_line
line_said b bs more =
    ap (λ (l : List ℕ). (codes "?" ++ l) ++ codes "\n")
    (binding_said b.unknown (spelled b.to ++ bindings_spelled bs)
    ∙ ap (λ (l : List ℕ). (decimal b.unknown ++ codes " =") ++ l) (type_said b.to (bindings_spelled bs)))
    ∙ joined (codes "?") (decimal b.unknown) (codes " =") (type_text b.to) (words_text None (bindings_spelled bs)) (codes "\n") (bindings_text bs) more

-- The lines from the second binding's tag on, and the end of the last.
lines_said : (bs : List Binding) → words_text None (bindings_spelled bs) ++ codes "\n" ≡ codes "\n" ++ bindings_text bs
unfolding bindings_spelled bindings_text
lines_said [] = ap (λ (l : List ℕ). l ++ codes "\n") text_ended
lines_said (b ∷ bs) =
    ap (λ (l : List ℕ). l ++ codes "\n") (next_said (b.unknown ∷ (spelled b.to ++ bindings_spelled bs)))
    ∙ ap (λ (l : List ℕ). codes "\n" ++ l) (line_said b bs (lines_said bs))

pub first_line : (b : Binding) (bs : List Binding) → codes "?" ++ words_text (Some 11) (b.unknown ∷ (spelled b.to ++ bindings_spelled bs)) ++ codes "\n"
    ≡ bindings_text (b ∷ bs)
first_line b bs = line_said b bs (lines_said bs)
