-- Disk: what the calls of a disk do to its bytes, and what a stop leaves. Forms: the disk in memory. History: writes and syncs one after another.
-- HistoryLaws: laws that the disk in memory has to meet.
pub mod Disk
pub mod History
pub mod HistoryLaws
pub mod Forms
