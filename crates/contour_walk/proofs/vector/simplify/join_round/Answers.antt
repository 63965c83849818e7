use Rattle.std.proofs.Common.{◌≡◌, ◌∙◌, ap, ◌-◌, take, drop, length, arith}
use Rattle.std.proofs.lemmas.List.{length-drop, take-append-le, take_all}
use Rattle.contour_walk.proofs.vector.simplify.join_round.Goals as goal

pub returns-clause-none : goal.returns-clause-none
returns-clause-none g c =
    let items = c.join_ends-start.new.edges.items in
    let start = c.join_ends-start.result in
    let left = c.len.result - start in
    let size = c.join_ends-start.new.edges.ok.0 in
    let long = length-drop start items in
    let few : left ≡ length (drop start items) = omega (arith, c.len.ensures, size, long) in
    let is : c.truncate.new.self.items ≡ drop start items =
    c.truncate.ensures.items
    ∙ (ap (take left) c.rotate_left.ensures.items
    ∙ (take-append-le left (drop start items) (take start items) (omega (arith, few)) ∙ take_all left (drop start items) (omega (arith, few)))) in
    rw is (λ many. c.join_ends-start.ensures.none (omega (arith, many, long)))
