-- for the clauses `read` and `spelled` of constants, expressions and numbers: whole fields
use Rattle.std.proofs.Common.{◌≡◌, ℕ, List, ◌++◌, Some, ◌∙◌, ap}
use Rattle.autocoder_statements.specs.Constants.{constant}
use Rattle.autocoder_statements.specs.Expressions.{positive, expression}
use Rattle.autocoder_statements.specs.Statements.{whole}
use Rattle.autocoder_statements.specs.declared.constants.Constant.{Constant}
use Rattle.autocoder_statements.specs.declared.expressions.Expression.{Expression}
use Rattle.autocoder_laws.specs.Texts.{Joined, IsEnd}
use Rattle.autocoder_laws.specs.Numbers.{IsPositive}
use Rattle.autocoder_laws.specs.Addresses.{IsExpression}
use Rattle.autocoder_laws.specs.Constants.{IsConstant}
use Rattle.autocoder_laws.proofs.Fronts.{whole_read, whole_spelled}
use Rattle.autocoder_laws.proofs.Stops.{end_stops}
use Rattle.autocoder_laws.proofs.NumberTexts.{positive_read, positive_spelled}
use Rattle.autocoder_laws.proofs.AddressTexts.{expression_read, expression_spelled}
use Rattle.autocoder_laws.proofs.ConstantTexts.{constant_read, constant_spelled}

pub positive_law : (n : ℕ) (text rest : List ℕ) → IsPositive n text → IsEnd rest → whole (text ++ rest) (positive (text ++ rest)) ≡ Some n
positive_law n text rest h end =
    let stops = end_stops rest end in
    ap (whole (text ++ rest)) (positive_read n text rest h stops.halts.digits) ∙ whole_read n text rest end

pub positive_law_back : (n : ℕ) (field : List ℕ) → whole field (positive field) ≡ Some n → Joined (IsPositive n) IsEnd field
positive_law_back n field e = whole_spelled IsPositive field (positive field) n e (λ m count read. positive_spelled field m count read)

pub expression_law : (e : Expression) (text rest : List ℕ) → IsExpression e text → IsEnd rest → whole (text ++ rest) (expression (text ++ rest)) ≡ Some e
expression_law e text rest h end =
    let stops = end_stops rest end in
    ap (whole (text ++ rest)) (expression_read e text rest h stops.halts) ∙ whole_read e text rest end

pub expression_law_back : (e : Expression) (field : List ℕ) → whole field (expression field) ≡ Some e → Joined (IsExpression e) IsEnd field
expression_law_back e field h = whole_spelled IsExpression field (expression field) e h (λ x count read. expression_spelled field x count read)

pub constant_law : (c : Constant) (text rest : List ℕ) → IsConstant c text → IsEnd rest → whole (text ++ rest) (constant (text ++ rest)) ≡ Some c
constant_law c text rest h end =
    let stops = end_stops rest end in
    ap (whole (text ++ rest)) (constant_read c text rest h stops.halts.digits) ∙ whole_read c text rest end

pub constant_law_back : (c : Constant) (field : List ℕ) → whole field (constant field) ≡ Some c → Joined (IsConstant c) IsEnd field
constant_law_back c field h = whole_spelled IsConstant field (constant field) c h (λ x count read. constant_spelled field x count read)
