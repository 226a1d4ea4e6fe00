-- The pieces in order are the text of the message.
use Rattle.std.proofs.Common.{◌≡◌, ℕ, zero, suc, ◌+◌, ◌<◌, List, [], ◌∷◌, ◌++◌, length, get_or, drop, Option, ap, append_assoc, arith}
use Rattle.std.proofs.lemmas.List.{at_drop_more}
use Rattle.meaning.specs.Messages.{message_text}
use Rattle.writer.proofs.Writing.{writes_as}
use Rattle.writer.specs.Writes.{hex_of}
use Rattle.messages.specs.declared.Message.{Message}
use Rattle.messages.specs.declared.shown.Piece.{Piece}
use Rattle.messages.specs.Shown.{Sight, Seen, Shows, ok_piece, ok_pieces, piece_text, pieces_text}
use Rattle.messages.specs.Said.{said, OkMessage, WritesMessage}

pub pieces_more : (ps : List Piece) (i : ℕ) (d : Piece) → i < length ps → (v : Sight)
    → pieces_text (drop i ps) v ≡ piece_text (get_or ps i d) v ++ pieces_text (drop (i + 1) ps) v
pieces_more ps i d l v = at_drop_more (λ qs. pieces_text qs v) ps i d l

pub piece_ok : (w : List ℕ) (ps : List Piece) (i : ℕ) (d : Piece) → i < length ps → ok_pieces w ps → ok_piece w (get_or ps i d)
piece_ok w [] i d l o = absurd (omega arith)
piece_ok w (p ∷ ps) zero d l o = o.0
piece_ok w (p ∷ ps) (suc i) d l o = piece_ok w ps i d (omega arith) o.1

-- what follows the two types
pub found_then : (p e q g r : List ℕ) → p ++ (e ++ (q ++ (g ++ r))) ≡ (p ++ (e ++ (q ++ g))) ++ r
found_then p e q g r = simp append_assoc

pub message_shown : {f w out : List ℕ} {at : ℕ} {m : Message} {ok : Type 0} {s : Sight → List ℕ} {out' : List ℕ} {r : Option ℕ}
    → ((v : Sight) → Seen f w v → s v ≡ message_text v.names v.schema (said v.rows v.subst m)) → (OkMessage w m → ok)
    → Shows f w out at ok s out' r → WritesMessage f w out at m out' r
message_shown e k g = record {
  is = λ T d st stands holds o b.
      let v : Sight = record { rows = T; subst = st.subst; names = d.names; schema = d.schema } in
      let S : Seen _ _ v = record { schema = stands.schema; cells = holds.cells; binds = holds.binds; acyclic = holds.acyclic } in
      writes_as (ap hex_of (e v S)) (g.is v S (k o) b);
  moves = g.moves;
}

-- a message that is one text, and asks for nothing
pub text_shown : {f w out : List ℕ} {at : ℕ} {m n : Message} {s : Sight → List ℕ} {out' : List ℕ} {r : Option ℕ}
    → m ≡ n → s ≡ (λ v. message_text v.names v.schema (said v.rows v.subst n)) → Shows f w out at (Unit {0} × Unit {0}) s out' r
    → WritesMessage f w out at m out' r
text_shown q e g = rw q (message_shown (λ v S. ap (λ t. t v) e) (λ o. (tt, tt)) g)
