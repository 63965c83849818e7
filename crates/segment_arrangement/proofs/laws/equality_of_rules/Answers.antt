use Rattle.std.proofs.Common.{◌≡◌, true, int_eq, refl, ap}
use Rattle.std.proofs.lemmas.Bool.Decides.{Decides-int_eq}
use Rattle.segment_arrangement.specs.declared.depth.Depth.{Depth}
use Rattle.segment_arrangement.specs.declared.fill_rule.FillRule.TheVariants.{EvenOdd, NonZero, Positive, Negative, AtLeast}
use Rattle.segment_arrangement.proofs.DepthLaws.{same_depth}
use Rattle.segment_arrangement.proofs.laws.equality_of_rules.Goals as goal

told : (a b : Depth) → int_eq a.windings b.windings ≡ true → a ≡ b
told a b e = same_depth a b ((Decides-int_eq a.windings b.windings).0 e)

untold : (a b : Depth) → a ≡ b → int_eq a.windings b.windings ≡ true
untold a b e = (Decides-int_eq a.windings b.windings).1 (ap (λ d. d.windings) e)

pub returns-clause-of_depths : goal.returns-clause-of_depths
returns-clause-of_depths c a b = (told a b, untold a b)

pub returns-clause-of_fills : goal.returns-clause-of_fills
returns-clause-of_fills c EvenOdd EvenOdd = (λ e. refl, λ e. refl)
returns-clause-of_fills c EvenOdd NonZero = (λ e. absurd (cc), λ e. absurd (cc))
returns-clause-of_fills c EvenOdd Positive = (λ e. absurd (cc), λ e. absurd (cc))
returns-clause-of_fills c EvenOdd Negative = (λ e. absurd (cc), λ e. absurd (cc))
returns-clause-of_fills c EvenOdd (AtLeast k) = (λ e. absurd (cc), λ e. absurd (cc))
returns-clause-of_fills c NonZero EvenOdd = (λ e. absurd (cc), λ e. absurd (cc))
returns-clause-of_fills c NonZero NonZero = (λ e. refl, λ e. refl)
returns-clause-of_fills c NonZero Positive = (λ e. absurd (cc), λ e. absurd (cc))
returns-clause-of_fills c NonZero Negative = (λ e. absurd (cc), λ e. absurd (cc))
returns-clause-of_fills c NonZero (AtLeast k) = (λ e. absurd (cc), λ e. absurd (cc))
returns-clause-of_fills c Positive EvenOdd = (λ e. absurd (cc), λ e. absurd (cc))
returns-clause-of_fills c Positive NonZero = (λ e. absurd (cc), λ e. absurd (cc))
returns-clause-of_fills c Positive Positive = (λ e. refl, λ e. refl)
returns-clause-of_fills c Positive Negative = (λ e. absurd (cc), λ e. absurd (cc))
returns-clause-of_fills c Positive (AtLeast k) = (λ e. absurd (cc), λ e. absurd (cc))
returns-clause-of_fills c Negative EvenOdd = (λ e. absurd (cc), λ e. absurd (cc))
returns-clause-of_fills c Negative NonZero = (λ e. absurd (cc), λ e. absurd (cc))
returns-clause-of_fills c Negative Positive = (λ e. absurd (cc), λ e. absurd (cc))
returns-clause-of_fills c Negative Negative = (λ e. refl, λ e. refl)
returns-clause-of_fills c Negative (AtLeast k) = (λ e. absurd (cc), λ e. absurd (cc))
returns-clause-of_fills c (AtLeast d) EvenOdd = (λ e. absurd (cc), λ e. absurd (cc))
returns-clause-of_fills c (AtLeast d) NonZero = (λ e. absurd (cc), λ e. absurd (cc))
returns-clause-of_fills c (AtLeast d) Positive = (λ e. absurd (cc), λ e. absurd (cc))
returns-clause-of_fills c (AtLeast d) Negative = (λ e. absurd (cc), λ e. absurd (cc))
returns-clause-of_fills c (AtLeast d) (AtLeast k) = (λ e. ap AtLeast (told d k e), λ e. untold d k (cc))
