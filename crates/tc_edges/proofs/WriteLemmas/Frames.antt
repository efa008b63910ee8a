-- A frame whose data field is a segment.
use Rattle.std.proofs.Common.{◌≡◌, ℕ, List, ◌∷◌, Some, sym, ap, subst, ◌∙◌}
use Rattle.tc_link.specs.declared.frame.Header.{Header}
use Rattle.tc_link.specs.Frame.{IsFrame}
use Rattle.tc_packet.specs.Segment.{segment_of, header_of, body_of}
use Rattle.tc_packet.specs.declared.segment.Segment.{Segment}
use Rattle.tc_edges.specs.Write.Frames.{IsMadeFrame}

pub segmented : (frame octets : List ℕ) (octet : ℕ) (header : Header) (segment : Segment) → IsFrame frame header (octet ∷ octets)
    → segment_of octet ≡ segment → IsMadeFrame frame header (Some segment) octets
segmented frame octets octet header segment is says =
    (subst (λ (f : List ℕ). IsFrame frame header f) is.rest is, (ap header_of (sym is.rest) ∙ says, ap body_of (sym is.rest)))
