-- Names that start with the two fixed ones.
use Rattle.std.proofs.Common.{◌≡◌, ap, ℕ, List}
use Rattle.std.specs.Prelude.{true, Option, Some, None, codes}
use Rattle.std.proofs.lemmas.Bool.{and_parts}
use Rattle.self_terms.specs.Names.{text_of}
use Rattle.source_model.proofs.Naming.{same_text}
use Rattle.plain_steps.specs.Steps.{NamesSums}
use Rattle.world_test.specs.Further.{is_given, starts_fixed}

given_text : (text : List ℕ) (o : Option (List ℕ)) → is_given text o ≡ true → o ≡ Some text
given_text text None e = absurd (cc)
given_text text (Some x) e = ap Some (same_text x text e)

pub names_sum : (names : List (List ℕ)) → starts_fixed names ≡ true → NamesSums names
names_sum names e =
    let h = and_parts (is_given (codes "_IntAdd:") (text_of names 1)) (is_given (codes "_IntSub:") (text_of names 2)) e in
    record { add = given_text (codes "_IntAdd:") (text_of names 1) h.0; sub = given_text (codes "_IntSub:") (text_of names 2) h.1 }
