-- The words, one after the other: the text of those before and of those that are left is the text of all.
use Rattle.std.proofs.Common.{ℕ, ◌+◌, ◌-◌, ◌≤◌, ◌<◌, List, [], ◌∷◌, ◌++◌, ◌≡◌, length, get_or, take, drop, refl, sym, ap, ◌∙◌, subst, append_assoc, append-nil, add-one, drop-cons, arith, None, Some, Option, Ok}
use Rattle.std.proofs.lemmas.List.{drop_all, take_rest}
use Rattle.std.proofs.KnownBytes.{Appends-nil}
use Rattle.std.specs.Prelude.{codes}
use Rattle.std.specs.Fmt.{decimal}
use Rattle.plain_theory.specs.Plain.{Binding}
use Rattle.plain_theory.specs.Words.{spelled, bindings_spelled}
use Rattle.input.specs.Gains.{GainsFrontOf}
use Rattle.input.proofs.Gains.{first_gained, whole_gained}
use Rattle.sigla_inspect.specs.Text.{bindings_text}
use Rattle.sigla_inspect.specs.Words.{tag_text, after_number, word_text, owing, words_text}
use Rattle.sigla_inspect.specs.Promises.{HandsOver}
use Rattle.sigla_inspect.proofs.Texts.{first_line}

pub tag_word : (tag : Option ℕ) (w : ℕ) → tag ≡ None → tag_text w ≡ word_text tag w
unfolding word_text
tag_word tag w e = rw e refl

pub number_word : (tag : Option ℕ) (a n : ℕ) → tag ≡ Some a → decimal n ++ after_number a ≡ word_text tag n
unfolding word_text
number_word tag a n e = rw e refl

-- ---- The loop

word_next : (tag : Option ℕ) (ws : List ℕ) (k : ℕ) → k < length ws
    → words_text tag (drop k ws) ≡ word_text tag (get_or ws k 0) ++ words_text (owing tag (get_or ws k 0)) (drop (k + 1) ws)
unfolding words_text
word_next tag ws k h = rw (add-one, drop-cons ws k 0) refl

pub text_next : (tag : Option ℕ) (ws : List ℕ) (k : ℕ) (so_far whole : List ℕ) → k < length ws → so_far ++ words_text tag (drop k ws) ≡ whole
    → (so_far ++ word_text tag (get_or ws k 0)) ++ words_text (owing tag (get_or ws k 0)) (drop (k + 1) ws) ≡ whole
text_next tag ws k so_far whole h e =
    append_assoc so_far _ _ ∙ ap (λ (l : List ℕ). so_far ++ l) (sym (word_next tag ws k h)) ∙ e

pub text_ends : (tag : Option ℕ) (ws : List ℕ) (k : ℕ) (so_far whole : List ℕ) → length ws ≤ k → so_far ++ words_text tag (drop k ws) ≡ whole → so_far ≡ whole
unfolding words_text
text_ends tag ws k so_far whole h e =
    let none : drop k ws ≡ [] = drop_all k ws h in
    let last : words_text tag (drop k ws) ≡ [] = rw none refl in
    sym (append-nil so_far) ∙ ap (λ (l : List ℕ). so_far ++ l) (sym last) ∙ e

-- ---- The bindings

pub none_bound : (a : Option (List ℕ)) (words : List ℕ) (bs : List Binding) → words ≡ bindings_spelled bs → length words < 1
    → HandsOver a a (Ok (tt {0})) (bindings_text bs)
unfolding bindings_spelled bindings_text
none_bound a words [] e h = record { whole = Appends-nil a; front = whole_gained a a [] (Appends-nil a) }
none_bound a words (b ∷ bs) e h = absurd (omega (arith, ap length e))

-- What the words behind the first tag say.
abbrev pub behind_tag : List ℕ → List ℕ
behind_tag words = words_text (Some 11) (take (length words - 1) (drop 1 words))

pub some_bound : (words : List ℕ) (bs : List Binding) → words ≡ bindings_spelled bs → 1 ≤ length words
    → codes "?" ++ behind_tag words ++ codes "\n" ≡ bindings_text bs
unfolding bindings_spelled
some_bound words [] e h = absurd (omega (arith, ap length e))
some_bound words (b ∷ bs) e h =
    rw e (rw (take_rest (11 ∷ b.unknown ∷ (spelled b.to ++ bindings_spelled bs)) 1) (first_line b bs))

pub mark_gained : (a b : Option (List ℕ)) (words : List ℕ) (bs : List Binding) → words ≡ bindings_spelled bs → 1 ≤ length words
    → GainsFrontOf a b (codes "?") → GainsFrontOf a b (bindings_text bs)
mark_gained a b words bs e h mark =
    subst (GainsFrontOf a b) (some_bound words bs e h)
    (first_gained a b (codes "?" ++ behind_tag words) (codes "\n") (first_gained a b (codes "?") (behind_tag words) mark))
