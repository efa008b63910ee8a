-- Frames with and without the field.
use Rattle.std.specs.Prelude.{ℕ, ◌+◌, ◌*◌, ◌/◌, ◌%◌, ◌==◌, List, [], ◌∷◌, ◌++◌, length, Option, Some, None, nat_lt, if◌then◌else◌}
use Rattle.tc_link.specs.Frame.{fault_of, named_length}
use Rattle.tc_link.specs.declared.frame.FrameFault.{FrameFault}
use Rattle.tc_edges.specs.Fecf.Checksum.{checksum_of}
use Rattle.tc_edges.specs.declared.fecf.frames.FieldFault.{FieldFault}
use Rattle.tc_edges.specs.declared.fecf.frames.FieldFault.TheVariants.{NoFrame, Fill, TooLong, TooShort, WrongSum}

-- the two octets that spell a number
abbrev pub spelled : ℕ → List ℕ
spelled n = n / 256 ∷ n % 256 ∷ []

-- The octets before the field are those of the frame, except that its length field counts two octets more. The length
-- field ends with the fourth octet.
unfoldable pub octets_before_field : List ℕ → List ℕ
octets_before_field (a ∷ b ∷ c ∷ d ∷ rest) = a ∷ b ∷ (256 * c + d + 2) / 256 ∷ (256 * c + d + 2) % 256 ∷ rest
octets_before_field octets = octets

-- a frame with its frame error control field, computed over all octets before that field (CCSDS 232.0-B, 4.1.4.1)
unfoldable pub frame_with_field : List ℕ → List ℕ
frame_with_field frame = octets_before_field frame ++ spelled (checksum_of (octets_before_field frame))

-- the reason why octets aren't exactly one frame
abbrev pub frame_fault_by : Option FrameFault → List ℕ → Option FieldFault
frame_fault_by (Some fault) octets = Some (NoFrame fault)
frame_fault_by None octets = if nat_lt (named_length octets) (length octets) then Some Fill else None

abbrev pub frame_fault_of : List ℕ → Option FieldFault
frame_fault_of octets = frame_fault_by (fault_of octets) octets

-- the first fault if there is one, and otherwise the next
abbrev pub or_else : Option FieldFault → Option FieldFault → Option FieldFault
or_else (Some fault) next = Some fault
or_else None next = next

-- the first fault, in this order, of octets to which a field is to be added
abbrev pub adding_fault_of : List ℕ → Option FieldFault
adding_fault_of octets = or_else (frame_fault_of octets) (if nat_lt 1022 (length octets) then Some TooLong else None)

-- the first fault, in this order, of octets from which a field is to be removed
abbrev pub taking_fault_of : List ℕ → Option FieldFault
taking_fault_of octets = or_else (frame_fault_of octets)
    (if nat_lt (length octets) 8 then Some TooShort
    else if checksum_of octets == 0 then None
    else Some WrongSum)
