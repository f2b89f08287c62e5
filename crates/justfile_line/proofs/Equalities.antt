-- Each sigil is in the list of their cases, and lines and fragments are equal exactly if their fields are.
use Rattle.std.proofs.Common.{◌≡◌, Bool, true, List, [], ◌∷◌, ◌&&◌, ◌==◌, refl, ap}
use Rattle.std.specs.Cmp.Lexicographic.{pointwise}
use Rattle.std.specs.List.{list_any}
use Rattle.justfile_line.specs.Equal.{fragment_eq, line_eq}
use Rattle.justfile_line.specs.Sigil.{sigils_in_order}
use Rattle.justfile_line.specs.contracts.fragment.FragmentPartialEq.TheImpl as fragment_equality
use Rattle.justfile_line.specs.contracts.line.LinePartialEq.TheImpl as line_equality
use Rattle.justfile_line.specs.contracts.sigil.SigilPartialEq.TheImpl as sigil_equality
use Rattle.justfile_line.specs.declared.fragment.Fragment.{Fragment}
use Rattle.justfile_line.specs.declared.fragment.Fragment.TheVariants.{Interpolation, Text}
use Rattle.justfile_line.specs.declared.line.Line.{Line}
use Rattle.justfile_line.specs.declared.sigil.Sigil.{Sigil}
use Rattle.justfile_line.specs.declared.sigil.Sigil.TheVariants.{Guard, Infallible, Quiet}

pub sigils_whole : (s : Sigil) → list_any (sigil_equality.eq-value.it s) sigils_in_order ≡ true
sigils_whole Guard = refl
sigils_whole Infallible = refl
sigils_whole Quiet = refl

pub fragments_are : (f g : Fragment) → fragment_equality.eq-value.it f g ≡ fragment_eq f g
fragments_are (Interpolation expression) (Interpolation other) = refl
fragments_are (Interpolation expression) (Text token) = refl
fragments_are (Text token) (Interpolation expression) = refl
fragments_are (Text token) (Text other) = refl

pub lines_are : (l m : Line) → line_equality.eq-value.it l m ≡ line_eq l m
lines_are l m = λ i. pointwise (λ f g. fragments_are f g i) l.fragments.items m.fragments.items && (l.number == m.number)
