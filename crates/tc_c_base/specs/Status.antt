-- The outcome of a call, as a number and as a text.
use Rattle.std.specs.Prelude.{ℕ, ◌==◌, List, [], ◌∷◌, Option, Some, None, codes, if◌then◌else◌}
use Rattle.tc_c_base.specs.declared.status.Status.{Status}
use Rattle.tc_c_base.specs.declared.status.Status.TheVariants as st

-- The number of each status, and its text in ASCII. The number 0 means that the call is done. From 1 on, the octets
-- begin with no frame, or they aren't one frame with a right frame error control field. From 10 on, nothing is written.
-- The next ranges are for calls on FARM-1 (from 20 on), on CLCWs (30), on packets (40), and with buffers and pointers
-- (50). From 60 on, no channel is created from settings. From 70 on, a call on a channel fails. From 80 on, no channel
-- is created with limits. From 90 on, the statuses are for CLTUs and telemetry frames. From 100 on, they are for
-- sessions of lines.
abbrev pub entry_of : Status → ℕ × List ℕ
entry_of st.Done = (0, codes "done")
entry_of st.Short = (1, codes "fewer than 5 octets")
entry_of st.Version = (2, codes "the version isn't 0")
entry_of st.Spare = (3, codes "the spare bits aren't 0")
entry_of st.LengthSmall = (4, codes "the frame length names fewer than 6 octets")
entry_of st.Truncated = (5, codes "the frame length names more octets than there are")
entry_of st.Fill = (6, codes "octets follow the frame")
entry_of st.NoFecf = (7, codes "the frame has fewer than 8 octets")
entry_of st.WrongFecf = (8, codes "the frame error control field is wrong")
entry_of st.BadField = (10, codes "a field of the header is over its bound")
entry_of st.EmptyData = (11, codes "the data field is empty")
entry_of st.TooLong = (12, codes "the data field has more than 1,019 octets")
entry_of st.NoMemory = (13, codes "no memory")
entry_of st.LongPacket = (14, codes "the packet data field has more than 65,536 octets")
entry_of st.LongUnit = (15, codes "the unit has more than 65,542 octets")
entry_of st.LongFrame = (16, codes "the frame has more than 1,022 octets")
entry_of st.BadSize = (17, codes "a segment isn't for 1 to 1,018 octets")
entry_of st.NoSegment = (18, codes "the unit has no segment at that place")
entry_of st.BadCommand = (19, codes "the command is neither Unlock nor Set V(R)")
entry_of st.BadWidth = (20, codes "the width of the window isn't even and 2 to 254")
entry_of st.BadState = (21, codes "the state isn't 1 to 3")
entry_of st.BadFarmB = (22, codes "the FARM-B counter is over 3")
entry_of st.BadFlag = (23, codes "a flag is neither 0 nor 1")
entry_of st.FlagsDisagree = (24, codes "the flags don't agree with the state")
entry_of st.BadArrival = (25, codes "the arrival isn't 1 to 6")
entry_of st.NoEntry = (26, codes "in S2 no expected AD frame finds room")
entry_of st.BadVcid = (30, codes "the virtual channel id is over 63")
entry_of st.NoClcw = (31, codes "the word is no CLCW of COP-1")
entry_of st.NoPacket = (40, codes "no whole packet is there")
entry_of st.NoRoom = (50, codes "the buffer is too short")
entry_of st.Null = (51, codes "a pointer is null")
entry_of st.NoStatus = (52, codes "no such status")
entry_of st.BadBuffer = (60, codes "the buffer isn't for 1 to 64 data fields")
entry_of st.BadApid = (61, codes "the APID of a queue is over 2,046")
entry_of st.DoubleApid = (62, codes "two queues have one APID")
entry_of st.BadCapacity = (63, codes "a queue isn't for 1 to 256 packets")
entry_of st.BadMap = (64, codes "a MAP is over 63")
entry_of st.DoubleMap = (65, codes "a MAP is chosen twice")
entry_of st.BadUnits = (66, codes "the queue of a MAP isn't for 1 to 256 units")
entry_of st.PlainMap = (67, codes "a channel without segment headers has no MAPs")
entry_of st.NoChannel = (70, codes "no channel is held")
entry_of st.InUse = (71, codes "a channel is held already")
entry_of st.NoQueue = (72, codes "no queue has that APID")
entry_of st.NoMap = (73, codes "that MAP isn't chosen")
entry_of st.Empty = (74, codes "nothing waits there")
entry_of st.OtherSpacecraft = (75, codes "the frame is for another spacecraft")
entry_of st.UnknownChannel = (76, codes "no channel has that virtual channel id")
entry_of st.BadOthers = (80, codes "the limit of the other MAPs is out of its range")
entry_of st.BadLimitMap = (81, codes "the MAP of a limit is over 63")
entry_of st.DoubleLimit = (82, codes "a MAP has two limits")
entry_of st.BadLimit = (83, codes "the limit of a MAP isn't 1 to 65,542 octets")
entry_of st.PlainLimit = (84, codes "a channel without segment headers has no limits by MAP")
entry_of st.UnlistedMap = (85, codes "a chosen MAP has no limit")
entry_of st.LongCltu = (90, codes "a CLTU carries at most 1,029 octets")
entry_of st.BadLength = (91, codes "the telemetry frame isn't of 11 or 13 to 2,048 octets")
entry_of st.NoControl = (92, codes "there is no operational control field")
entry_of st.BadDecoder = (93, codes "no decoder of CLTUs has that record")
entry_of st.NoSession = (100, codes "no session is held")
entry_of st.SessionInUse = (101, codes "a session is held already")
entry_of st.BadScid = (102, codes "the spacecraft id is over 1,023")
entry_of st.BadLine = (103, codes "the lines end here, and the text says why")
entry_of st.Waiting = (104, codes "the text of an earlier call waits")
entry_of st.Lost = (105, codes "no memory for an answer, which is lost")
entry_of st.Over = (106, codes "the lines have ended")

abbrev pub code_of : Status → ℕ
code_of status = (entry_of status).0

abbrev pub text_of : Status → List ℕ
text_of status = (entry_of status).1

abbrev pub statuses : List Status
statuses =
    st.Done ∷ st.Short ∷ st.Version ∷ st.Spare ∷ st.LengthSmall ∷ st.Truncated ∷ st.Fill ∷ st.NoFecf ∷ st.WrongFecf ∷
    st.BadField ∷ st.EmptyData ∷ st.TooLong ∷ st.NoMemory ∷ st.LongPacket ∷ st.LongUnit ∷ st.LongFrame ∷ st.BadSize ∷
    st.NoSegment ∷ st.BadCommand ∷ st.BadWidth ∷ st.BadState ∷ st.BadFarmB ∷ st.BadFlag ∷ st.FlagsDisagree ∷ st.BadArrival ∷
    st.NoEntry ∷ st.BadVcid ∷ st.NoClcw ∷ st.NoPacket ∷ st.NoRoom ∷ st.Null ∷ st.NoStatus ∷ st.BadBuffer ∷ st.BadApid ∷
    st.DoubleApid ∷ st.BadCapacity ∷ st.BadMap ∷ st.DoubleMap ∷ st.BadUnits ∷ st.PlainMap ∷ st.NoChannel ∷ st.InUse ∷ st.NoQueue
    ∷ st.NoMap ∷ st.Empty ∷ st.OtherSpacecraft ∷ st.UnknownChannel ∷ st.BadOthers ∷ st.BadLimitMap ∷ st.DoubleLimit ∷ st.BadLimit
    ∷ st.PlainLimit ∷ st.UnlistedMap ∷ st.LongCltu ∷ st.BadLength ∷ st.NoControl ∷ st.BadDecoder ∷ st.NoSession
    ∷ st.SessionInUse ∷ st.BadScid ∷ st.BadLine ∷ st.Waiting ∷ st.Lost ∷ st.Over ∷ []

-- the first status of a list that has this number, or `None` if no status of the list has it
abbrev pub status_numbered : ℕ → List Status → Option Status
status_numbered number [] = None
status_numbered number (status ∷ others) = if number == code_of status then Some status else status_numbered number others

abbrev pub status_of : ℕ → Option Status
status_of number = status_numbered number statuses
