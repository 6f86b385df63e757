pub mod KeeperLaws
