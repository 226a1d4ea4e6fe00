-- The pieces are the message's text.
use Rattle.std.proofs.Common.{append-nil, refl}
use Rattle.format.specs.Bytes.{ascii}
use Rattle.meaning.specs.Messages.{message_text}
use Rattle.messages.proofs.Parting.{found_then, message_shown, text_shown}
use Rattle.messages.proofs.text.Goals as goal

pub returns-in-WildcardHead : goal.returns-in-WildcardHead
unfolding message_text
returns-in-WildcardHead c = text_shown c.in-WildcardHead.is refl c.write.ensures

pub returns-in-BoundConstant : goal.returns-in-BoundConstant
unfolding message_text
returns-in-BoundConstant c = text_shown c.in-BoundConstant.is refl c.write-in-BoundConstant.ensures

pub returns-in-DeniedConstant : goal.returns-in-DeniedConstant
unfolding message_text
returns-in-DeniedConstant c = text_shown c.in-DeniedConstant.is refl c.write-in-DeniedConstant.ensures

pub returns-in-MatchedPatterns : goal.returns-in-MatchedPatterns
unfolding message_text
returns-in-MatchedPatterns c = text_shown c.in-MatchedPatterns.is refl c.write-in-MatchedPatterns.ensures

pub returns-in-DeniedPattern : goal.returns-in-DeniedPattern
unfolding message_text
returns-in-DeniedPattern c = text_shown c.in-DeniedPattern.is refl c.write-in-DeniedPattern.ensures

pub returns-in-DistanceOutside : goal.returns-in-DistanceOutside
unfolding message_text
returns-in-DistanceOutside c = rw c.in-DistanceOutside.is
    (message_shown (λ v S. rw (c.word.ensures, S.schema.distance) (simp append-nil)) (λ o. (tt, (tt, (tt, (tt, tt))))) c.write-in-DistanceOutside.ensures)

pub returns-in-TermTooLong : goal.returns-in-TermTooLong
unfolding message_text
returns-in-TermTooLong c = rw c.in-TermTooLong.is
    (message_shown (λ v S. rw (c.word-in-TermTooLong.ensures, S.schema.term) refl) (λ o. (tt, (tt, (tt, (tt, (tt, tt)))))) c.write-in-TermTooLong.ensures)

pub returns-in-UnknownType : goal.returns-in-UnknownType
unfolding message_text
returns-in-UnknownType c = text_shown c.in-UnknownType.is refl c.write-in-UnknownType.ensures

pub returns-in-ValueShadowed : goal.returns-in-ValueShadowed
unfolding message_text
returns-in-ValueShadowed c = text_shown c.in-ValueShadowed.is refl c.write-in-ValueShadowed.ensures

pub returns-in-NoValue : goal.returns-in-NoValue
unfolding message_text
returns-in-NoValue c = text_shown c.in-NoValue.is refl c.write-in-NoValue.ensures

pub returns-in-NoAlternative : goal.returns-in-NoAlternative
unfolding message_text
returns-in-NoAlternative c = rw c.in-NoAlternative.is (message_shown (λ v S. refl) (λ o. (tt, (tt, tt))) c.write-in-NoAlternative.ensures)

pub returns-in-NoField : goal.returns-in-NoField
unfolding message_text
returns-in-NoField c = rw c.in-NoField.is (message_shown (λ v S. refl) (λ o. (tt, (tt, tt))) c.write-in-NoField.ensures)

pub returns-in-NotOneAlternative : goal.returns-in-NotOneAlternative
unfolding message_text
returns-in-NotOneAlternative c =
    rw c.in-NotOneAlternative.is (message_shown (λ v S. simp append-nil) (λ o. (tt, (tt, tt))) c.write-in-NotOneAlternative.ensures)

pub returns-in-NotAUnion : goal.returns-in-NotAUnion
unfolding message_text
returns-in-NotAUnion c = rw c.in-NotAUnion.is (message_shown (λ v S. simp append-nil) (λ o. (tt, (o, tt))) c.write-in-NotAUnion.ensures)

pub returns-in-NotAFact : goal.returns-in-NotAFact
unfolding message_text
returns-in-NotAFact c = rw c.in-NotAFact.is (message_shown (λ v S. simp append-nil) (λ o. (tt, (o, tt))) c.write-in-NotAFact.ensures)

pub returns-in-NoFields : goal.returns-in-NoFields
unfolding message_text
returns-in-NoFields c = rw c.in-NoFields.is (message_shown (λ v S. refl) (λ o. (o, (tt, tt))) c.write-in-NoFields.ensures)

pub returns-in-NoOrder : goal.returns-in-NoOrder
unfolding message_text
returns-in-NoOrder c = rw c.in-NoOrder.is (message_shown (λ v S. refl) (λ o. (o, (tt, tt))) c.write-in-NoOrder.ensures)

pub returns-in-Mismatch : goal.returns-in-Mismatch
unfolding message_text
returns-in-Mismatch c = rw c.in-Mismatch.is (message_shown (λ v S. simp append-nil) (λ o. (tt, (o.0, (tt, (o.1, tt))))) c.write-in-Mismatch.ensures)

pub returns-in-UnionMismatch-Absent-default-default : goal.returns-in-UnionMismatch-Absent-default-default
unfolding message_text
returns-in-UnionMismatch-Absent-default-default c =
    let d = rw c.in-UnionMismatch-Absent-default-default.is at c.in-UnionMismatch-Absent-default-default.field-0-is in
    rw (c.in-UnionMismatch-Absent-default-default.is, d)
    (message_shown (λ v S. simp append-nil (found_then (ascii "expected ") _ (ascii ", found ") _ _))
    (λ o. (tt, (o.0, (tt, (o.1, (tt, (tt, (tt, (tt, tt))))))))) c.write-in-UnionMismatch-Absent-default-default.ensures)

pub returns-in-UnionMismatch-Renamed-default-default : goal.returns-in-UnionMismatch-Renamed-default-default
unfolding message_text
returns-in-UnionMismatch-Renamed-default-default c =
    let d = rw c.in-UnionMismatch-Renamed-default-default.is at c.in-UnionMismatch-Renamed-default-default.field-0-is in
    rw (c.in-UnionMismatch-Renamed-default-default.is, d)
    (message_shown (λ v S. simp append-nil (found_then (ascii "expected ") _ (ascii ", found ") _ _))
    (λ o. (tt, (o.0, (tt, (o.1, (tt, (tt, (tt, (tt, (tt, (tt, tt))))))))))) c.write-in-UnionMismatch-Renamed-default-default.ensures)

pub returns-in-UnionMismatch-Payload-default-default : goal.returns-in-UnionMismatch-Payload-default-default
unfolding message_text
returns-in-UnionMismatch-Payload-default-default c =
    let d = rw c.in-UnionMismatch-Payload-default-default.is at c.in-UnionMismatch-Payload-default-default.field-0-is in
    rw (c.in-UnionMismatch-Payload-default-default.is, d)
    (message_shown (λ v S. found_then (ascii "expected ") _ (ascii ", found ") _ _) (λ o. (tt, (o.0, (tt, (o.1, (tt, (tt, (tt, (tt, (tt, tt))))))))))
    c.write-in-UnionMismatch-Payload-default-default.ensures)

pub returns-in-Infinite : goal.returns-in-Infinite
unfolding message_text
returns-in-Infinite c = text_shown c.in-Infinite.is refl c.write-in-Infinite.ensures
