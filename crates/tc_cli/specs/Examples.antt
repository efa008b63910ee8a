-- A script, and the text that it writes, worked out by hand from the standard and docs/reference/scripts.md.
use Rattle.std.specs.Prelude.{ℕ, List, codes}

-- A script for spacecraft 42. At first there is nothing to release. A packet of application 5 is brought in a Type-AD
-- frame, released and taken. Application 6 has no queue, and MAP 4 isn't chosen. Two octets for the chosen MAP 3 come
-- in a Type-BD frame, and one more packet waits in the buffer at the end.
abbrev pub script : List ℕ
script = codes "channel 1 10 2 0\nqueue 1 5 1\nmap 1 3 1\nrelease 1\nframe 002a040c00c01005c0000000aa\nrelease 1\ntake 1 5\ntake 1 6\nunit 1 4\nframe 202a040700c3aabb\nframe 002a040c01c01005c0000000aa\n"

-- The answers to the script's operations, and the final report. At the end V(R) is 2, and the FARM-B counter is 1.
abbrev pub text : List ℕ
text = codes "refused empty\nframe 1 E1 accepted 1 queued 0 dropped 0 rest 0\nrelease 1 queued 1 dropped 0 rest 0\ntake 1 5 1005c0000000aa\nrefused no queue\nrefused no map\nframe 1 E6 accepted 1 queued 1 dropped 0 rest 0\nframe 1 E1 accepted 1 queued 0 dropped 0 rest 0\nfinal 1 01040202 events 5 buffered 1\nqueue 1 5 0\nmap 1 3 1\n"
