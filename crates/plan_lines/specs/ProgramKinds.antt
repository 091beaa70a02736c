-- The numbers that stand for a kind of program in a plan's text.
use Rattle.std.specs.Prelude.{ℕ, Bool, if◌then◌else◌, Option, Some, None}
use Rattle.program_kinds.specs.declared.attach.CgroupSkbAttachType.{CgroupSkbAttachType}
use Rattle.program_kinds.specs.declared.attach.CgroupSkbAttachType.TheVariants as skb
use Rattle.program_kinds.specs.declared.attach.CgroupSockAddrAttachType.{CgroupSockAddrAttachType}
use Rattle.program_kinds.specs.declared.attach.CgroupSockAddrAttachType.TheVariants as sock_addr
use Rattle.program_kinds.specs.declared.attach.CgroupSockAttachType.{CgroupSockAttachType}
use Rattle.program_kinds.specs.declared.attach.CgroupSockAttachType.TheVariants as sock
use Rattle.program_kinds.specs.declared.attach.CgroupSockoptAttachType.{CgroupSockoptAttachType}
use Rattle.program_kinds.specs.declared.attach.CgroupSockoptAttachType.TheVariants as sockopt
use Rattle.program_kinds.specs.declared.attach.SkReuseportAttachType.{SkReuseportAttachType}
use Rattle.program_kinds.specs.declared.attach.SkReuseportAttachType.TheVariants as reuseport
use Rattle.program_kinds.specs.declared.attach.SkSkbKind.{SkSkbKind}
use Rattle.program_kinds.specs.declared.attach.SkSkbKind.TheVariants as sk_skb
use Rattle.program_kinds.specs.declared.attach.XdpAttachType.{XdpAttachType}
use Rattle.program_kinds.specs.declared.attach.XdpAttachType.TheVariants as xdp
use Rattle.program_kinds.specs.declared.program_section.ProgramSection.{ProgramSection}
use Rattle.program_kinds.specs.declared.program_section.ProgramSection.TheVariants as kind
use Rattle.plan_lines.specs.declared.program_kind.KindNumbers.{KindNumbers}

-- The number of a flag.
abbrev pub flag_number : Bool → ℕ
flag_number flag = if flag then 1 else 0

-- The numbers of the attach types.
abbrev pub xdp_number : XdpAttachType → ℕ
xdp_number xdp.Interface = 0
xdp_number xdp.CpuMap = 1
xdp_number xdp.DevMap = 2

abbrev pub sk_skb_number : SkSkbKind → ℕ
sk_skb_number sk_skb.StreamParser = 0
sk_skb_number sk_skb.StreamVerdict = 1

abbrev pub reuseport_number : SkReuseportAttachType → ℕ
reuseport_number reuseport.Select = 0
reuseport_number reuseport.SelectOrMigrate = 1

-- The number of an attach type, 0 for none.
abbrev pub skb_number : Option CgroupSkbAttachType → ℕ
skb_number None = 0
skb_number (Some skb.Ingress) = 1
skb_number (Some skb.Egress) = 2

abbrev pub sockopt_number : CgroupSockoptAttachType → ℕ
sockopt_number sockopt.Get = 0
sockopt_number sockopt.Set = 1

abbrev pub sock_number : CgroupSockAttachType → ℕ
sock_number sock.PostBind4 = 0
sock_number sock.PostBind6 = 1
sock_number sock.SockCreate = 2
sock_number sock.SockRelease = 3

abbrev pub sock_addr_number : CgroupSockAddrAttachType → ℕ
sock_addr_number sock_addr.Bind4 = 0
sock_addr_number sock_addr.Bind6 = 1
sock_addr_number sock_addr.Connect4 = 2
sock_addr_number sock_addr.Connect6 = 3
sock_addr_number sock_addr.GetPeerName4 = 4
sock_addr_number sock_addr.GetPeerName6 = 5
sock_addr_number sock_addr.GetSockName4 = 6
sock_addr_number sock_addr.GetSockName6 = 7
sock_addr_number sock_addr.UDPSendMsg4 = 8
sock_addr_number sock_addr.UDPSendMsg6 = 9
sock_addr_number sock_addr.UDPRecvMsg4 = 10
sock_addr_number sock_addr.UDPRecvMsg6 = 11

-- The numbers of a program line: the kind, and then its fields in order, 0 for a missing field.
abbrev pub numbered : ℕ → ℕ → ℕ → KindNumbers
numbered kind first second = record { kind = kind; first = first; second = second }

abbrev pub kind_numbers : ProgramSection → KindNumbers
kind_numbers kind.KRetProbe = numbered 0 0 0
kind_numbers kind.KProbe = numbered 1 0 0
kind_numbers (kind.UProbe sleepable multi) = numbered 2 (flag_number sleepable) (flag_number multi)
kind_numbers (kind.URetProbe sleepable multi) =
    numbered 3 (flag_number sleepable) (flag_number multi)
kind_numbers kind.TracePoint = numbered 4 0 0
kind_numbers kind.SocketFilter = numbered 5 0 0
kind_numbers (kind.Xdp frags attach_type) = numbered 6 (flag_number frags) (xdp_number attach_type)
kind_numbers kind.SkMsg = numbered 7 0 0
kind_numbers (kind.SkSkbStream stream) = numbered 8 (sk_skb_number stream) 0
kind_numbers kind.SockOps = numbered 9 0 0
kind_numbers kind.SchedClassifier = numbered 10 0 0
kind_numbers (kind.CgroupSkb attach_type) = numbered 11 (skb_number attach_type) 0
kind_numbers (kind.CgroupSockAddr attach_type) = numbered 12 (sock_addr_number attach_type) 0
kind_numbers kind.CgroupSysctl = numbered 13 0 0
kind_numbers (kind.CgroupSockopt attach_type) = numbered 14 (sockopt_number attach_type) 0
kind_numbers kind.LircMode2 = numbered 15 0 0
kind_numbers kind.PerfEvent = numbered 16 0 0
kind_numbers kind.RawTracePoint = numbered 17 0 0
kind_numbers (kind.Lsm sleepable) = numbered 18 (flag_number sleepable) 0
kind_numbers kind.LsmCgroup = numbered 19 0 0
kind_numbers kind.BtfTracePoint = numbered 20 0 0
kind_numbers (kind.FEntry sleepable) = numbered 21 (flag_number sleepable) 0
kind_numbers (kind.FExit sleepable) = numbered 22 (flag_number sleepable) 0
kind_numbers kind.FlowDissector = numbered 23 0 0
kind_numbers kind.Extension = numbered 24 0 0
kind_numbers kind.SkLookup = numbered 25 0 0
kind_numbers (kind.SkReuseport attach_type) = numbered 26 (reuseport_number attach_type) 0
kind_numbers (kind.CgroupSock attach_type) = numbered 27 (sock_number attach_type) 0
kind_numbers kind.CgroupDevice = numbered 28 0 0
kind_numbers (kind.Iter sleepable) = numbered 29 (flag_number sleepable) 0
