-- Each arm's text is the code of its messages.
use Rattle.std.proofs.Common.{inl, inr, refl}
use Rattle.format.specs.Bytes.{ascii}
use Rattle.meaning.specs.Diag.{as_str, code_of}
use Rattle.messages.proofs.code_of.Goals as goal

pub returns-in-WildcardHead : goal.returns-in-WildcardHead
unfolding ascii as_str code_of
returns-in-WildcardHead c = λ T s. rw c.in-WildcardHead.is refl

pub returns-in-DistanceOutside : goal.returns-in-DistanceOutside
unfolding ascii as_str code_of
returns-in-DistanceOutside c = λ T s. rw c.in-DistanceOutside.is refl

pub returns-in-TermTooLong : goal.returns-in-TermTooLong
unfolding ascii as_str code_of
returns-in-TermTooLong c = λ T s. rw c.in-TermTooLong.is refl

pub returns-in-UnknownType : goal.returns-in-UnknownType
unfolding ascii as_str code_of
returns-in-UnknownType c = λ T s. rw c.in-UnknownType.is refl

pub returns-in-ValueShadowed : goal.returns-in-ValueShadowed
unfolding ascii as_str code_of
returns-in-ValueShadowed c = λ T s. rw c.in-ValueShadowed.is refl

pub returns-in-NoValue : goal.returns-in-NoValue
unfolding ascii as_str code_of
returns-in-NoValue c = λ T s. rw c.in-NoValue.is refl

pub returns-in-NoAlternative : goal.returns-in-NoAlternative
unfolding ascii as_str code_of
returns-in-NoAlternative c = λ T s. rw c.in-NoAlternative.is refl

pub returns-in-NoField : goal.returns-in-NoField
unfolding ascii as_str code_of
returns-in-NoField c = λ T s. rw c.in-NoField.is refl

pub returns-in-NotOneAlternative : goal.returns-in-NotOneAlternative
unfolding ascii as_str code_of
returns-in-NotOneAlternative c = λ T s. rw c.in-NotOneAlternative.is refl

pub returns-in-NotAUnion : goal.returns-in-NotAUnion
unfolding ascii as_str code_of
returns-in-NotAUnion c = λ T s. rw c.in-NotAUnion.is refl

pub returns-in-Infinite : goal.returns-in-Infinite
unfolding ascii as_str code_of
returns-in-Infinite c = λ T s. rw c.in-Infinite.is refl

pub returns-in-BoundConstant : goal.returns-in-BoundConstant
unfolding ascii as_str code_of
returns-in-BoundConstant c = λ T s. elim c.in-BoundConstant.is [ inl e ↦ rw e refl | inr h ↦ rw h refl ]

pub returns-in-MatchedPatterns : goal.returns-in-MatchedPatterns
unfolding ascii as_str code_of
returns-in-MatchedPatterns c = λ T s. elim c.in-MatchedPatterns.is [ inl e ↦ rw e refl | inr h ↦ rw h refl ]

pub returns-in-NotAFact : goal.returns-in-NotAFact
unfolding ascii as_str code_of
returns-in-NotAFact c = λ T s.
    elim c.in-NotAFact.is [
      | inl e ↦ rw e.1 refl
      | inr h ↦ elim h [
        | inl e ↦ rw e.1 refl
        | inr h ↦ elim h [ inl e ↦ rw e.1 refl | inr h ↦ elim h [ inl e ↦ rw e.2 refl | inr e ↦ rw e.3 refl ] ]
      ]
    ]
